use Rattle.std.proofs.Common.{drop}
use Rattle.std.specs.Prelude.{◌↔◌}
use Rattle.tpl_hall.specs.Closes.{AllHoldAt}
use Rattle.tpl_hall.proofs.sights.all_hold_at.Given as goal

abbrev pub invariant-loop-seat : goal.invariant-loop-seat
invariant-loop-seat l = AllHoldAt l.core.graph l.core.inputs l.core.events l.place (drop l.seat-index l.seats) ↔ AllHoldAt l.core.graph l.core.inputs l.core.events l.place l.seats
