use Rattle.std.proofs.Common.{◌<◌, ◌∷◌, [], map, refl, sym, ap, ◌∙◌, subst, set}
use Rattle.std.proofs.lemmas.List.{length-map, map-append}
use Rattle.crossbeam_queue.specs.Passes.{view}
use Rattle.tpl_items.specs.declared.rule.Placed.{Placed}
use Rattle.tpl_items.specs.Pass.{PassView, QueueView}
use Rattle.tpl_items.specs.Tally.{after_put}
use Rattle.tpl_items.specs.Balance.{IsBalanced}
use Rattle.tpl_items.proofs.Steps.{puts, knows}
use Rattle.tpl_items.proofs.Moments.{fewer_at_put}
use Rattle.tpl_items.proofs.queue.JobQueue.put.Goals as goal

pub push_as-requires-clause-rule : goal.push_as-requires-clause-rule
push_as-requires-clause-rule g c =
    let seat = c.pass.inside.seat in
    let v = view seat in
    let t = c.args.job.task.0 in
    let told = c.witness-places.ensures ∙ ap (λ k. k ∷ []) c.self.invariant.0 in (
      (λ items views room b at. (
        after_put v t,
        subst (λ tasks. IsBalanced tasks (set views seat.id (after_put v t))) (sym (map-append (λ p. p.job.task.0) items (_ ∷ [])))
            (puts (map (λ p. p.job.task.0) items) views seat.id v t c.pass.invariant.1 b at),
        (refl, fewer_at_put (λ p. p.job.task.0) _ v items _ told room (knows (map (λ p. p.job.task.0) items) views seat.id v b at)),
      )),
      (λ items views b at. knows (map (λ p. p.job.task.0) items) views seat.id v b at),
    )

pub push_as-requires-clause-queue : goal.push_as-requires-clause-queue
push_as-requires-clause-queue g c =
    (ap (λ (p : PassView). p.queue) c.pass.view_is ∙ (c.requires ∙ sym (ap (λ (q : QueueView). q.id) c.self.view_is)), c.pass.invariant.0)

pub invariant_of-pass : goal.invariant_of-pass
invariant_of-pass g c =
    (c.in-Err.ensures.queue.2 ∙ c.pass.invariant.0, subst (λ v. 0 < v.parts) (sym c.in-Err.ensures.rule.1) c.pass.invariant.1)

pub returns-in-Err-clause-queue : goal.returns-in-Err-clause-queue
returns-in-Err-clause-queue g c = c.in-Err.ensures.queue.0 ∙ ap (λ (p : PassView). p.queue) c.pass.view_is

pub returns-in-Err-clause-refused : goal.returns-in-Err-clause-refused
returns-in-Err-clause-refused g c =
    (c.into_job.ensures ∙ ap (λ (p : Placed g.row.I.Denot). p.job) c.in-Err.ensures.rule.0, c.in-Err.ensures.rule.1 ∙ ap (λ (p : PassView). p.tally) c.pass.view_is)

pub returns-in-Err-clause-full : goal.returns-in-Err-clause-full
returns-in-Err-clause-full g c =
    let held = c.in-Err.ensures.rule.2 in
    rw (← c.self.view_is, ← c.pass.view_is) (map (λ p. p.job.task.0) held.0, length-map held.0 (λ p. p.job.task.0) ∙ held.1, held.2)

pub invariant_of-pass-2 : goal.invariant_of-pass-2
invariant_of-pass-2 g c =
    (c.in_default.ensures.queue.2 ∙ c.pass.invariant.0, subst (λ v. 0 < v.parts) (sym c.in_default.ensures.rule.0) c.pass.invariant.1)

pub returns-clause-queue : goal.returns-clause-queue
returns-clause-queue g c = c.in_default.ensures.queue.0 ∙ ap (λ (p : PassView). p.queue) c.pass.view_is

pub returns-clause-put : goal.returns-clause-put
returns-clause-put g c =
    c.in_default.ensures.rule.0 ∙ ap (λ (p : PassView). after_put p.tally c.args.job.task.0) c.pass.view_is

pub returns-clause-room : goal.returns-clause-room
returns-clause-room g c =
    let told = c.witness-places.ensures ∙ ap (λ k. k ∷ []) c.self.invariant.0 in rw (← c.self.view_is, ← c.pass.view_is) (c.in_default.ensures.rule.1 _ told)
