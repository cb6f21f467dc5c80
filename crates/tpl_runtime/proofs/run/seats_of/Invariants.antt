use Rattle.std.proofs.Common.{◌≡◌, ◌+◌, ◌++◌, length, map}
use Rattle.std.specs.Prelude.{vec_len, vec_capacity}
use Rattle.std.specs.Vec.Iter.{into_iter_items}
use Rattle.tpl_runtime.proofs.run.seats_of.Given as goal

abbrev pub invariant-loop-seat : goal.invariant-loop-seat
invariant-loop-seat l =
    record {
      seats : l.seats.items ++ map (λ d. d.0) (into_iter_items l.seat-iterator) ≡ map (λ d. d.0) l.fn.done.items;
      count : vec_len l.seats + length (into_iter_items l.seat-iterator) ≡ vec_len l.fn.done;
      capacity : vec_capacity l.seats ≡ vec_capacity l.initial.seats;
    }
