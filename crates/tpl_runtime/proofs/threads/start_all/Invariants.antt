use Rattle.std.proofs.Common.{◌≡◌, ◌+◌, [], ◌++◌, length, map}
use Rattle.std.specs.Prelude.{All, IfNone, IsPermutation, vec_len, vec_capacity}
use Rattle.std.specs.Vec.Iter.{into_iter_items}
use Rattle.tpl_runtime.specs.Workers.{IsNew, HasWorked}
use Rattle.tpl_runtime.proofs.threads.start_all.Given as goal

abbrev pub invariant-loop-seat : goal.invariant-loop-seat
invariant-loop-seat g l =
    record {
      pass : l.pass.queue ≡ (g.C.Crew.session l.crew).queue;
      new : All IsNew (into_iter_items l.seat-iterator);
      children : All (λ h. h.promise.session ≡ g.C.Crew.session l.crew) l.children.items;
      worked : All (λ d. HasWorked (g.C.Crew.session l.crew).graph.graph (g.C.Crew.session l.crew).inputs d.0 d.1) l.done.items;
      started : IfNone l.halting ((l.done.items ≡ []) × (map (λ h. h.promise.actor) l.children.items ++ map (λ s. s.actor) (into_iter_items l.seat-iterator) ≡ map (λ s. s.actor) l.fn.seats.items));
      everyone : IsPermutation (map (λ s. s.actor) l.fn.seats.items) ((map (λ d. d.0.actor) l.done.items ++ map (λ h. h.promise.actor) l.children.items) ++ map (λ s. s.actor) (into_iter_items l.seat-iterator));
      count : vec_len l.children + vec_len l.done + length (into_iter_items l.seat-iterator) ≡ vec_len l.fn.seats;
      child_capacity : vec_capacity l.children ≡ vec_capacity l.initial.children;
      done_capacity : vec_capacity l.done ≡ vec_capacity l.initial.done;
    }
