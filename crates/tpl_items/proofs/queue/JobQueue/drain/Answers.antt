use Rattle.std.proofs.Common.{◌≡◌, ◌∷◌, map, refl, length, sym, ap, ◌∙◌, arith, if◌then◌else◌, ◌==◌}
use Rattle.std.proofs.lemmas.List.{length-map, map-append}
use Rattle.crossbeam_queue.specs.Passes.{view}
use Rattle.tpl_items.specs.Pass.{PassView, QueueView}
use Rattle.tpl_items.specs.Tally.{after_take}
use Rattle.tpl_items.proofs.Steps.{takes, knows}
use Rattle.tpl_items.proofs.Drained.{one_drained, all_drained, as_many_drained}
use Rattle.tpl_items.proofs.queue.JobQueue.drain.Goals as goal

pub len_as-count-requires-clause-rule : goal.len_as-count-requires-clause-rule
len_as-count-requires-clause-rule g c items views b at =
    let seat = c.pass.inside.seat in knows (map (λ p. p.job.task.0) items) views seat.id (view seat) b at

pub pop_as-requires-clause-rule : goal.pop_as-requires-clause-rule
pop_as-requires-clause-rule g c =
    let seat = c.loop-turn.seat in
    let v = view seat in (
      (λ x items views b at. (
        after_take v x.job.task.0,
        takes (map (λ p. p.job.task.0) items) views seat.id v x.job.task.0 c.loop-turn.invariant.live b at,
        (refl, (map (λ p. p.job.task.0) items, knows (x.job.task.0 ∷ map (λ p. p.job.task.0) items) views seat.id v b at)),
      )),
      (λ items views b at. knows (map (λ p. p.job.task.0) items) views seat.id v b at),
    )

pub learn_as-requires-clause-rule : goal.learn_as-requires-clause-rule
learn_as-requires-clause-rule g c items views b at =
    let seat = c.loop-turn.seat in knows (map (λ p. p.job.task.0) items) views seat.id (view seat) b at

pub returns-in-None-clause-accounts : goal.returns-in-None-clause-accounts
returns-in-None-clause-accounts g c =
    let held = c.in-None.ensures.rule.1 in
    let drained = map (λ j. j.task.0) c.loop-turn.list.items in
    let left = map (λ p. p.job.task.0) held.0 in
    all_drained c.args.pass.tally drained left (length-map held.0 (λ p. p.job.task.0) ∙ held.1) (rw (← c.loop-turn.invariant.drained) held.2)

pub returns-in-None-clause-each_once : goal.returns-in-None-clause-each_once
returns-in-None-clause-each_once g c whole t = (returns-in-None-clause-accounts g c).counted whole (λ u. if u == t then 1 else 0)

pub returns-clause-accounts : goal.returns-clause-accounts
returns-clause-accounts g c =
    let first = c.len_as-count.ensures.rule.1 in
    let last = c.learn_as.ensures.rule in
    let before = map (λ p. p.job.task.0) first.0 in
    let drained = map (λ j. j.task.0) c.loop-turn.list.items in
    let left = map (λ p. p.job.task.0) last.0 in
    let full : length c.loop-turn.list.items ≡ c.len_as-count.result = omega (arith, c.loop-turn.list.ok.0) in
    let as_many : length drained ≡ length before = length-map c.loop-turn.list.items (λ j. j.task.0) ∙ full ∙ sym first.1 ∙ sym (length-map first.0 (λ p. p.job.task.0)) in
    as_many_drained c.args.pass.tally before drained left (rw (← c.pass.view_is) first.2) (rw (← c.loop-turn.invariant.drained) last.1) as_many

pub returns-clause-each_once : goal.returns-clause-each_once
returns-clause-each_once g c whole t = (returns-clause-accounts g c).counted whole (λ u. if u == t then 1 else 0)

pub len_as-count-requires-clause-queue : goal.len_as-count-requires-clause-queue
len_as-count-requires-clause-queue g c =
    (ap (λ (p : PassView). p.queue) c.pass.view_is ∙ (c.requires ∙ sym (ap (λ (q : QueueView). q.id) c.self.view_is)), c.pass.invariant.0)

pub pop_as-requires-clause-queue : goal.pop_as-requires-clause-queue
pop_as-requires-clause-queue g c = c.loop-turn.invariant.queue

pub learn_as-requires-clause-queue : goal.learn_as-requires-clause-queue
learn_as-requires-clause-queue g c = c.loop-turn.invariant.queue

pub loop-turn-preserved : goal.loop-turn-preserved
loop-turn-preserved g c =
    let so_far = c.loop-turn.invariant in
    let taken = c.in-Some.ensures in
    let pushed = c.push_reserved.ensures in
    record {
      queue = (taken.queue.0 ∙ so_far.queue.0, taken.queue.2 ∙ so_far.queue.1);
      drained =
          rw (pushed.items, map-append, c.into_job.ensures)
          (one_drained c.args.pass.tally (view c.loop-turn.seat) (view c.pop_as.new.pass) (map (λ j. j.task.0) c.loop-turn.list.items) c.in-Some.placed.job.task.0 so_far.drained taken.rule.0);
      live = rw taken.rule.0 so_far.live;
      len = rw (pushed.len, so_far.len);
      room = rw pushed.capacity so_far.room;
    }
