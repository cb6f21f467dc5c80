use Rattle.std.proofs.Common.{◌≡◌, [], drop, take}
use Rattle.tpl_trace.specs.Trace.{crosses}
use Rattle.tpl_trace.proofs.bodies.crosses.Given as goal

abbrev pub invariant-loop-at : goal.invariant-loop-at
invariant-loop-at l = crosses l.actor l.task.0 (take l.at l.events) (drop l.at l.events) ≡ crosses l.actor l.task.0 [] l.events
