use Rattle.std.proofs.Common.{◌≡◌}
use Rattle.tpl_model.specs.Rules.{status}
use Rattle.tpl_runtime.specs.Reports.{each_below}
use Rattle.tpl_runtime.proofs.tables.statuses.Given as goal

abbrev pub invariant-loop-task : goal.invariant-loop-task
invariant-loop-task l = l.list.items ≡ each_below (status l.core.graph l.core.inputs l.core.events) l.task
