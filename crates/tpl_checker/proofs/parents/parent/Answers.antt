use Rattle.tpl_model.specs.Graph.{IsParent}
use Rattle.tpl_laws.specs.RowTests.{parent_of}
use Rattle.tpl_checker.proofs.Basics.{option_is}
use Rattle.tpl_checker.proofs.parents.parent.Goals as goal

pub returns-clause-parent : goal.returns-clause-parent
returns-clause-parent c =
    let g = c.args.graph.now.graph in
    option_is (λ p. IsParent g p c.args.task.0) c.parent_of.result (parent_of g c.args.task.0)
    (λ p. (c.parent_is_right.ensures g p c.args.task.0 c.valid_law.ensures.graph).0)
    (λ p. (c.parent_is_right.ensures g p c.args.task.0 c.valid_law.ensures.graph).1)
    (λ t e. rw e at c.parent_of.ensures.parent) (λ e. rw e at c.parent_of.ensures.none)
