use Rattle.std.proofs.Common.{◌≡◌, take}
use Rattle.std.specs.Prelude.{reverse}
use Rattle.tpl_hall.specs.Closes.{AllHoldBelow}
use Rattle.tpl_hall.proofs.sights.seats_hold.Given as goal

abbrev pub invariant-loop-place : goal.invariant-loop-place
invariant-loop-place l =
    record {
      run : l.core ≡ record l.fn.core { events = reverse (take l.place l.journal) };
      below : AllHoldBelow l.fn.core.graph l.fn.core.inputs l.journal l.place l.seats;
    }
