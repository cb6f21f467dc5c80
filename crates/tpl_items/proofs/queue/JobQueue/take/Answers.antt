use Rattle.std.proofs.Common.{◌<◌, map, refl, sym, ap, subst, ◌∙◌, ◌∷◌}
use Rattle.std.proofs.lemmas.List.{length-map}
use Rattle.crossbeam_queue.specs.Passes.{view}
use Rattle.tpl_items.specs.Pass.{PassView, QueueView}
use Rattle.tpl_items.specs.Tally.{after_take}
use Rattle.tpl_items.proofs.Steps.{takes, knows}
use Rattle.tpl_items.proofs.queue.JobQueue.take.Goals as goal

pub pop_as-requires-clause-rule : goal.pop_as-requires-clause-rule
pop_as-requires-clause-rule g c =
    let seat = c.pass.inside.seat in
    let v = view seat in (
      (λ x items views b at. (
        after_take v x.job.task.0,
        takes (map (λ p. p.job.task.0) items) views seat.id v x.job.task.0 c.pass.invariant.1 b at,
        (refl, (map (λ p. p.job.task.0) items, knows (x.job.task.0 ∷ map (λ p. p.job.task.0) items) views seat.id v b at)),
      )),
      (λ items views b at. knows (map (λ p. p.job.task.0) items) views seat.id v b at),
    )

pub pop_as-requires-clause-queue : goal.pop_as-requires-clause-queue
pop_as-requires-clause-queue g c =
    (ap (λ (p : PassView). p.queue) c.pass.view_is ∙ (c.requires ∙ sym (ap (λ (q : QueueView). q.id) c.self.view_is)), c.pass.invariant.0)

pub invariant_of-pass : goal.invariant_of-pass
invariant_of-pass g c =
    (c.in_err-placed.ensures.queue.2 ∙ c.pass.invariant.0, subst (λ v. 0 < v.parts) (sym c.in_err-placed.ensures.rule.0) c.pass.invariant.1)

pub returns-in_err-placed-clause-queue : goal.returns-in_err-placed-clause-queue
returns-in_err-placed-clause-queue g c = c.in_err-placed.ensures.queue.0 ∙ ap (λ (p : PassView). p.queue) c.pass.view_is

pub returns-in_err-placed-clause-taken : goal.returns-in_err-placed-clause-taken
returns-in_err-placed-clause-taken g c = rw c.from_residual.ensures tt

pub returns-in_err-placed-clause-oldest : goal.returns-in_err-placed-clause-oldest
returns-in_err-placed-clause-oldest g c = rw c.from_residual.ensures tt

pub returns-in_err-placed-clause-none : goal.returns-in_err-placed-clause-none
returns-in_err-placed-clause-none g c =
    rw c.from_residual.ensures (c.in_err-placed.ensures.rule.0 ∙ ap (λ (p : PassView). p.tally) c.pass.view_is)

pub returns-in_err-placed-clause-empty : goal.returns-in_err-placed-clause-empty
returns-in_err-placed-clause-empty g c =
    let held = c.in_err-placed.ensures.rule.1 in
    rw (c.from_residual.ensures, ← c.pass.view_is) (map (λ p. p.job.task.0) held.0, length-map held.0 (λ p. p.job.task.0) ∙ held.1, held.2)

pub invariant_of-pass-2 : goal.invariant_of-pass-2
invariant_of-pass-2 g c =
    (c.in_ok-placed.ensures.queue.2 ∙ c.pass.invariant.0, subst (λ v. 0 < v.parts) (sym c.in_ok-placed.ensures.rule.0) c.pass.invariant.1)

pub returns-clause-queue : goal.returns-clause-queue
returns-clause-queue g c = c.in_ok-placed.ensures.queue.0 ∙ ap (λ (p : PassView). p.queue) c.pass.view_is

pub returns-clause-taken : goal.returns-clause-taken
returns-clause-taken g c = rw (c.into_job.ensures, ← c.pass.view_is) c.in_ok-placed.ensures.rule.0

pub returns-clause-oldest : goal.returns-clause-oldest
returns-clause-oldest g c = rw (c.into_job.ensures, ← c.pass.view_is) c.in_ok-placed.ensures.rule.1
