use Rattle.std.specs.Prelude.{◌≡◌, ◌≤◌, ◌<◌, map, vec_len, vec_capacity}
use Rattle.crossbeam_queue.specs.Passes.{view, IsPassOf}
use Rattle.tpl_items.proofs.Drained.{after_all}
use Rattle.tpl_items.proofs.queue.JobQueue.drain.Given as goal

abbrev pub invariant-loop-turn : goal.invariant-loop-turn
invariant-loop-turn g l =
    record {
      queue : IsPassOf l.ring l.seat;
      drained : view l.seat ≡ after_all l.fn.pass.tally (map (λ j. j.task.0) l.list.items);
      live : 0 < (view l.seat).parts;
      len : vec_len l.list ≡ l._turn;
      room : l.count ≤ vec_capacity l.list;
    }
