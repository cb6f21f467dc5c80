use Rattle.tpl_verify.proofs.EmptyLemmas.{unbegun_empty}
use Rattle.tpl_verify.proofs.empty.never_begins.Goals as goal

pub returns-then-never : goal.returns-then-never
returns-then-never c holds =
    let speaks = rw c.in-Some.is at c.requires in
    unbegun_empty c.args.question.now.graph.now.graph c.args.question.now.claim.now c.in-Some.task holds speaks (c.in_ok-never-in-Some.ensures.fits c.if-never.true) (c.in_ok-never-in-Some.ensures.always c.if-never.true)
