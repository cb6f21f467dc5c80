use Rattle.std.proofs.Common.{ap, ◌∙◌}
use Rattle.tpl_laws.specs.RowTests.{may_end_as}
use Rattle.tpl_checker.specs.Assumptions.{assumed_of}
use Rattle.tpl_model.specs.Certificate.{plain}
use Rattle.tpl_checker.proofs.ends.may_end.Goals as goal

pub returns-in-Any : goal.returns-in-Any
returns-in-Any c b f =
    let g = c.args.graph.now.graph in
    let l = assumed_of c.args.assumed.now in
    c.any_ends.ensures g l c.args.task.0 f ∙ ap (λ k. may_end_as g l (plain c.args.rows.now) c.args.task.0 k f) c.in-Any.ensures.kind
