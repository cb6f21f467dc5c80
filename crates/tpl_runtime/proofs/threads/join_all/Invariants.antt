use Rattle.std.proofs.Common.{◌≡◌, ◌+◌, ◌++◌, length, map}
use Rattle.std.specs.Prelude.{All, vec_len, vec_capacity}
use Rattle.std.specs.Vec.Iter.{into_iter_items}
use Rattle.tpl_runtime.specs.Workers.{HasWorked}
use Rattle.tpl_runtime.proofs.threads.join_all.Given as goal

abbrev pub invariant-loop-child : goal.invariant-loop-child
invariant-loop-child g l =
    record {
      pass : l.pass.queue ≡ (g.C.Crew.session l.crew).queue;
      children : All (λ h. h.promise.session ≡ g.C.Crew.session l.crew) (into_iter_items l.child-iterator);
      worked : All (λ d. HasWorked (g.C.Crew.session l.crew).graph.graph (g.C.Crew.session l.crew).inputs d.0 d.1) l.done.items;
      joined : map (λ d. d.0.actor) l.done.items ++ map (λ h. h.promise.actor) (into_iter_items l.child-iterator) ≡ map (λ d. d.0.actor) l.initial.done.items ++ map (λ h. h.promise.actor) l.fn.children.items;
      count : vec_len l.done + length (into_iter_items l.child-iterator) ≡ vec_len l.initial.done + vec_len l.fn.children;
      capacity : vec_capacity l.done ≡ vec_capacity l.initial.done;
    }
