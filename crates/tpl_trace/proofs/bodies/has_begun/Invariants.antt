use Rattle.std.proofs.Common.{◌≡◌, drop, is_some}
use Rattle.tpl_model.specs.Facts.{begun}
use Rattle.tpl_trace.proofs.bodies.has_begun.Given as goal

abbrev pub invariant-loop-event : goal.invariant-loop-event
invariant-loop-event l = is_some (begun (drop l.event-index l.events) l.task.0) ≡ is_some (begun l.events l.task.0)
