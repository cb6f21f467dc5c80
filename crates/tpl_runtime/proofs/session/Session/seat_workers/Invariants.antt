use Rattle.std.proofs.Common.{◌≡◌, map}
use Rattle.std.specs.Prelude.{All, vec_len, vec_capacity}
use Rattle.tpl_runtime.specs.Workers.{workers, IsNew}
use Rattle.tpl_runtime.proofs.session.Session.seat_workers.Given as goal

abbrev pub invariant-loop-number : goal.invariant-loop-number
invariant-loop-number g l =
    record {
      seats : map (λ s. s.actor) l.seats.items ≡ workers l.number;
      count : vec_len l.seats ≡ l.number;
      capacity : vec_capacity l.seats ≡ vec_capacity l.initial.seats;
      fresh : All IsNew l.seats.items;
    }
