use Rattle.std.proofs.Common.{◌≡◌, ◌∙◌, ◌++◌, suc, rules, arith, ap, subst, map}
use Rattle.std.specs.Prelude.{All}
use Rattle.std.specs.Vec.Iter.{into_iter_items}
use Rattle.tpl_runtime.specs.Views.{SessionView}
use Rattle.tpl_runtime.specs.Workers.{HasWorked}
use Rattle.tpl_runtime.proofs.OrderLemmas.{moved, all_moved}
use Rattle.tpl_runtime.proofs.WorkLemmas.{all_more}
use Rattle.tpl_runtime.proofs.threads.join_all.Goals as goal

pub mend-pass-requires-clause-second : goal.mend-pass-requires-clause-second
mend-pass-requires-clause-second g c =
    let all = subst (All (λ h. h.promise.session ≡ g.C.Crew.session c.args.crew.now)) c.in-Some.ensures.steps.0 c.loop-child.invariant.children in
    c.join-seat.ensures.1 ∙ ap (λ (s : SessionView). s.queue) (all 0 c.in-Some.child (omega arith))

pub loop-child-preserved : goal.loop-child-preserved
loop-child-preserved g c =
    let was = c.loop-child.invariant in
    let session = g.C.Crew.session c.args.crew.now in
    let next = c.in-Some.ensures.steps.0 in
    let all = subst (All (λ h. h.promise.session ≡ g.C.Crew.session c.args.crew.now)) next was.children in
    record {
      pass = search rules;
      children = λ k d lt. all (suc k) d (omega (arith, lt));
      worked = all_more (λ d. HasWorked session.graph.graph session.inputs d.0 d.1) c.loop-child.done.items c.push_reserved.new.self.items (c.join-seat.result.0, c.join-seat.result.2)
          c.push_reserved.ensures.items was.worked
          (subst (λ (s : SessionView). HasWorked s.graph.graph s.inputs c.join-seat.result.0 c.join-seat.result.2) (all 0 c.in-Some.child (omega arith)) c.join-seat.ensures.2);
      joined = moved (λ d. d.0.actor) (λ h. h.promise.actor) c.loop-child.done.items c.push_reserved.new.self.items (c.join-seat.result.0, c.join-seat.result.2) c.in-Some.child
          (into_iter_items c.loop-child.child-iterator) (into_iter_items c.next.new.self)
          (map (λ d. d.0.actor) c.args.done.now.items ++ map (λ h. h.promise.actor) c.args.children.items) c.join-seat.ensures.0 c.push_reserved.ensures.items next was.joined;
      count = omega (arith, was.count, c.push_reserved.ensures.len, c.in-Some.ensures.steps);
      capacity = search rules;
    }

pub returns-clause-joined : goal.returns-clause-joined
returns-clause-joined g c =
    all_moved (λ d. d.0.actor) (λ h. h.promise.actor) c.loop-child.done.items (into_iter_items c.loop-child.child-iterator)
    (map (λ d. d.0.actor) c.args.done.now.items ++ map (λ h. h.promise.actor) c.args.children.items) (omega (arith, c.in-None.ensures.steps.0, c.loop-child.child-iterator.rest.ok.0)) c.loop-child.invariant.joined
