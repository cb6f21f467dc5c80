use Rattle.std.proofs.Common.{ap, arith, not}
use Rattle.tpl_checker.proofs.BelowLemmas.{empty_tasks, nothing_attached, nothing_below}
use Rattle.tpl_checker.proofs.below.has_attached.Goals as goal

pub returns-then-task-len : goal.returns-then-task-len
returns-then-task-len c e =
    nothing_below c.args.graph.now.graph c.args.task.0 c.valid_law.ensures.graph c.below_is_right.ensures
    (empty_tasks c.attached.result.now _ c.attached.ensures (not c.is_empty.result) (ap not c.is_empty.ensures) e)

pub returns-else-task-len : goal.returns-else-task-len
returns-else-task-len c e = nothing_below c.args.graph.now.graph c.args.task.0 c.valid_law.ensures.graph c.below_is_right.ensures (nothing_attached c.args.graph.now.graph c.args.task.0 (omega arith))
