use Rattle.std.proofs.Common.{◌≡◌, drop}
use Rattle.tpl_trace.specs.Trace.{outlives}
use Rattle.tpl_trace.proofs.bodies.outlives.Given as goal

abbrev pub invariant-loop-event : goal.invariant-loop-event
invariant-loop-event l = outlives l.actor l.task.0 l.past (drop l.event-index l.later) ≡ outlives l.actor l.task.0 l.past l.later
