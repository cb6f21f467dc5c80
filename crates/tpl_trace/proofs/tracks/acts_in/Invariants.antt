use Rattle.std.proofs.Common.{◌≡◌, ◌≤◌, length, take}
use Rattle.tpl_trace.specs.Trace.{acts_in}
use Rattle.tpl_trace.proofs.tracks.acts_in.Given as goal

abbrev pub invariant-loop-left : goal.invariant-loop-left
invariant-loop-left l = (l.left ≤ length l.events) × (acts_in l.actor (take l.left l.events) ≡ acts_in l.actor l.events)

abbrev pub decreases-loop-left : goal.decreases-loop-left
decreases-loop-left l = l.left
