use Rattle.std.proofs.Common.{IsTrue, List, true, false, refl, subst, sym}
use Rattle.tpl_model.specs.declared.claim.Given.{Given}
use Rattle.tpl_verify.specs.Verdicts.{ThrowsNowhere}
use Rattle.tpl_verify.proofs.ThrowLemmas.{never_faults, throws_nowhere}
use Rattle.tpl_verify.proofs.empty.never_throws.Goals as goal

pub returns-then-throws_nowhere-clause-never : goal.returns-then-throws_nowhere-clause-never
returns-then-throws_nowhere-clause-never c so =
    let g = c.args.question.now.graph.now.graph in
    let nowhere = subst (λ (given : List Given). ThrowsNowhere g given c.args.task.0) c.given.ensures (c.throws_nowhere.ensures.0 c.if-throws_nowhere.true) in
    throws_nowhere g c.args.question.now.claim.now.given c.args.task.0 c.valid_law.ensures.graph nowhere

pub returns-clause-never : goal.returns-clause-never
returns-clause-never c so =
    never_faults c.args.question.now.graph.now.graph c.args.question.now.claim.now.given c.args.task (record { ran = true; canceled = true; faulted = false }) refl (c.in_ok-never.ensures.always so)

pub returns-clause-nowhere : goal.returns-clause-nowhere
returns-clause-nowhere c nowhere =
    let there = subst (λ (given : List Given). ThrowsNowhere c.args.question.now.graph.now.graph given c.args.task.0) (sym c.given.ensures) nowhere in
    let yes : IsTrue c.throws_nowhere.result = c.throws_nowhere.ensures.1 there in
    cc
