use Rattle.std.proofs.Common.{◌∙◌, [], ◌∷◌, ◌++◌, suc, arith, ap, sym, subst, map, append_assoc}
use Rattle.std.specs.Prelude.{All}
use Rattle.std.specs.Vec.Iter.{into_iter_items}
use Rattle.tpl_hall.specs.Views.{SeatView}
use Rattle.tpl_runtime.specs.Workers.{IsNew}
use Rattle.tpl_runtime.proofs.OrderLemmas.{one_came}
use Rattle.tpl_runtime.proofs.WorkLemmas.{none_of_both}
use Rattle.tpl_runtime.proofs.threads.start_all.Goals as goal

pub loop-seat-preserved : goal.loop-seat-preserved
loop-seat-preserved g c =
    let was = c.loop-seat.invariant in
    let one = c.start_one-rest.ensures in
    let all = subst (All IsNew) c.in-Some.ensures.steps.0 was.new in
    let came = one_came c.in-Some.seat.actor (map (λ (s : SeatView). s.actor) c.args.seats.items) (map (λ d. d.0.actor) c.loop-seat.done.items ++ map (λ h. h.promise.actor) c.loop-seat.children.items)
    (map (λ d. d.0.actor) c.start_one-rest.new.done.items ++ map (λ h. h.promise.actor) c.start_one-rest.new.children.items)
    (map (λ (s : SeatView). s.actor) (into_iter_items c.loop-seat.seat-iterator)) (map (λ (s : SeatView). s.actor) (into_iter_items c.next.new.self))
    (ap (λ l. map (λ (s : SeatView). s.actor) l) c.in-Some.ensures.steps.0) one.everyone was.everyone in
    let rest = map (λ (s : SeatView). s.actor) (into_iter_items c.next.new.self) in
    record {
      pass = one.pass;
      new = λ k d lt. all (suc k) d (omega (arith, lt));
      children = one.children;
      worked = one.worked;
      started = none_of_both c.start_one-rest.result.1 c.loop-seat.halting c.or-halting.result _ _ _ c.or-halting.ensures
          (λ told before. (
            ap (λ v. v.items) told.0 ∙ before.0,
            ap (λ l. l ++ rest) told.1
                ∙ append_assoc (map (λ h. h.promise.actor) c.loop-seat.children.items) (c.in-Some.seat.actor ∷ []) rest
                ∙ ap (λ l. map (λ h. h.promise.actor) c.loop-seat.children.items ++ map (λ (s : SeatView). s.actor) l) (sym c.in-Some.ensures.steps.0)
                ∙ before.1,
          ))
          one.started was.started;
      everyone = came;
      count = omega (arith, was.count, one.count, c.in-Some.ensures.steps);
      child_capacity = one.capacity.0 ∙ was.child_capacity;
      done_capacity = one.capacity.1 ∙ was.done_capacity;
    }
