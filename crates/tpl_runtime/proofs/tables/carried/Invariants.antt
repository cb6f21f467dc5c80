use Rattle.std.proofs.Common.{◌≡◌, map}
use Rattle.tpl_model.specs.Rules.{carried}
use Rattle.tpl_draft.specs.Ids.{task_number}
use Rattle.tpl_runtime.specs.Reports.{each_below}
use Rattle.tpl_runtime.proofs.tables.carried.Given as goal

abbrev pub invariant-loop-task : goal.invariant-loop-task
invariant-loop-task l = map (λ c. map task_number c.items) l.list.items ≡ each_below (carried l.core.graph l.core.inputs l.core.events) l.task
