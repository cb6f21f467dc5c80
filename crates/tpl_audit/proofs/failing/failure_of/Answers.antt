use Rattle.std.proofs.Common.{ap, ◌∙◌}
use Rattle.tpl_laws.specs.Failing as law
use Rattle.tpl_audit.specs.Watching.{noted_of}
use Rattle.tpl_audit.proofs.FailLemmas.{told_at}
use Rattle.tpl_audit.proofs.failing.failure_of.Goals as goal

pub returns : goal.returns
returns g c =
    let j = g.C.Core.journal c.args.core.now in
    let w = c.args.watch.now in
    let broken = law.is_broken j.graph j.inputs j.events (noted_of w.asked w.failed) in
    told_at j.graph j.inputs j.events c.args.claim.now w.complete w.asked w.failed c.unless_broken.result c.failure_is_told.ensures c.run_law.ensures.graph.graph c.run_law.ensures.run c.requires.fits c.requires.watched
    (c.unless_broken.ensures
    ∙ (ap (λ z. law.unless_broken z (broken c.given.result.now)) (c.fails_from-fails.ensures ∙ ap (law.fails_from j.graph j.inputs j.events w.complete) c.body.ensures)
    ∙ ap (λ z. law.unless_broken (law.fails_from j.graph j.inputs j.events w.complete c.args.claim.now.body) (broken z)) c.given.ensures))
