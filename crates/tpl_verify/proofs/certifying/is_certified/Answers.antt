use Rattle.std.proofs.Common.{◌≡◌, ◌∙◌}
use Rattle.tpl_graph.specs.Fits.{Fits}
use Rattle.tpl_verify.specs.Verdicts.{HoldsAlways}
use Rattle.tpl_verify.proofs.VerdictLemmas.{likewise}
use Rattle.tpl_verify.proofs.certifying.is_certified.Goals as goal

pub returns-in-Ok-clause-fits : goal.returns-in-Ok-clause-fits
returns-in-Ok-clause-fits c so =
    let same : c.new-other.result.given ≡ c.args.question.now.claim.now.given = c.new-other.ensures.given ∙ c.in_ok-given.ensures.items ∙ c.given.ensures in
    likewise (Fits c.args.question.now.graph.now.graph) c.new-other.result c.args.question.now.claim.now.given c.args.body same c.new-other.ensures.body (c.fits.ensures.0 c.if-not-fits.false)

pub returns-in-Ok-clause-always : goal.returns-in-Ok-clause-always
returns-in-Ok-clause-always c so =
    let same : c.new-other.result.given ≡ c.args.question.now.claim.now.given = c.new-other.ensures.given ∙ c.in_ok-given.ensures.items ∙ c.given.ensures in
    likewise (HoldsAlways c.args.question.now.graph.now.graph) c.new-other.result c.args.question.now.claim.now.given c.args.body same c.new-other.ensures.body c.in-Ok.ensures.always
