use Rattle.std.proofs.Common.{◌≡◌, drop}
use Rattle.tpl_trace.specs.Trace.{some_may_end}
use Rattle.tpl_trace.proofs.arrows.some_may_end.Given as goal

abbrev pub invariant-loop-event : goal.invariant-loop-event
invariant-loop-event l = some_may_end l.task.0 (drop l.event-index l.events) ≡ some_may_end l.task.0 l.events
