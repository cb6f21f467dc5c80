use Rattle.std.proofs.Common.{◌≡◌, drop, map}
use Rattle.tpl_draft.specs.Ids.{task_number}
use Rattle.tpl_laws.specs.Verdict.{has_tasks}
use Rattle.tpl_checker.proofs.shape.list_fits.Given as goal

abbrev pub invariant-loop-task : goal.invariant-loop-task
invariant-loop-task l = has_tasks l.graph.graph (map task_number l.tasks) ≡ has_tasks l.graph.graph (map task_number (drop l.task-index l.tasks))
