use Rattle.std.proofs.Common.{map, ◌∙◌}
use Rattle.tpl_model.specs.Finals.{has}
use Rattle.tpl_model.specs.Graph.{some_in}
use Rattle.tpl_model.specs.Certificate.{one_ends, row, plain}
use Rattle.tpl_draft.specs.Ids.{task_number}
use Rattle.tpl_laws.specs.RowTests.{some_end}
use Rattle.tpl_checker.proofs.Basics.{only_ran, some_end_of_one, some_end_same}
use Rattle.tpl_checker.proofs.ends.any_ends.Goals as goal

pub returns : goal.returns
returns c g l t =
    let rows = (plain c.args.rows.now) in
    let args = map task_number c.args.args.now in
    only_ran c.some_end.result (some_in (λ x. some_end (has (row rows x).ends)) args)
    (c.some_end.ensures ∙ (some_end_same (has c.ends_of_one.result) (one_ends args rows) c.ends_of_one.ensures ∙ some_end_of_one rows args))
