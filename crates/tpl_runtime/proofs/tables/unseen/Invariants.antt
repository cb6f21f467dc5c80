use Rattle.std.proofs.Common.{◌≡◌, map}
use Rattle.tpl_draft.specs.Ids.{task_number}
use Rattle.tpl_runtime.specs.Reports.{those_below, is_unseen}
use Rattle.tpl_runtime.proofs.tables.unseen.Given as goal

abbrev pub invariant-loop-number : goal.invariant-loop-number
invariant-loop-number l = map task_number l.list.items ≡ those_below (is_unseen l.core.graph l.core.inputs l.core.events) l.number
