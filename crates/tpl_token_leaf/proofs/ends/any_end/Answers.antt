use Rattle.std.proofs.Common.{◌≡◌, ◌&&◌, Bool, false, filter, map, refl, ap, ◌∙◌}
use Rattle.tpl_model.specs.declared.finals.Final.{Final}
use Rattle.tpl_model.specs.declared.finals.Final.TheVariants.{RanToCompletion, Canceled, Faulted}
use Rattle.tpl_model.specs.Finals.{has, is_final}
use Rattle.tpl_draft.specs.Ids.{task_number}
use Rattle.tpl_model.specs.Graph.{some_in}
use Rattle.tpl_model.specs.Certificate.{may_end, one_ends, plain}
use Rattle.tpl_checker.proofs.Basics.{some_end_of_one, some_end_same}
use Rattle.tpl_token_leaf.specs.Leaf.{assumed_in, rows_in}
use Rattle.tpl_token_leaf.proofs.ends.any_end.Goals as goal

-- only RanToCompletion, if the test holds
ran_if : (r : Bool) (f : Final) → has (record { ran = r; canceled = false; faulted = false }) f ≡ (is_final RanToCompletion f && r)
ran_if r RanToCompletion = refl
ran_if r Canceled = refl
ran_if r Faulted = refl

pub returns : goal.returns
returns c f =
    let rows = plain (rows_in c.args.leaf.now) in
    let xs = filter ((assumed_in c.args.leaf.now).wins c.args.task.0) (map task_number c.args.args.now) in
    let found : c.some_end.result ≡ some_in (may_end rows) xs = c.some_end.ensures ∙ (some_end_same (has c.winner_ends.result) (one_ends xs rows) c.winner_ends.ensures ∙ some_end_of_one rows xs) in
    ran_if c.some_end.result f ∙ ap (λ z. is_final RanToCompletion f && z) found
