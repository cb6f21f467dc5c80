use Rattle.std.proofs.Common.{◌≡◌, ◌++◌, map}
use Rattle.std.specs.Vec.Iter.{into_iter_items}
use Rattle.tpl_report.proofs.session.with_workers.Given as goal

abbrev pub invariant-loop-seat : goal.invariant-loop-seat
invariant-loop-seat l = l.seats.items ++ map (λ d. d.0) (into_iter_items l.seat-iterator) ≡ l.fn.seats.items ++ map (λ d. d.0) l.fn.done.items
