use Rattle.std.proofs.Common.{◌≡◌, ◌<◌, length, min, ap, sym, subst, ◌∙◌, arith}
use Rattle.tpl_laws.specs.TokenVerdict.{token_fits, token_misfit}
use Rattle.tpl_checker.proofs.ShapeLemmas.{FitsSoFar, fits_next, misfits_here, one_missing}
use Rattle.tpl_token_check.proofs.TokenShapeLemmas.{finds_token_misfits}
use Rattle.tpl_token_check.proofs.shape.misfit.Goals as goal

pub returns-then-not-fits : goal.returns-then-not-fits
returns-then-not-fits c =
    let lt : c.loop-at.at < min (length c.args.claims.now) (length c.args.trees.now) = omega arith in
    misfits_here (finds_token_misfits c.args.graph.now.graph) c.loop-at.invariant c.index-trees-at.result lt (ap (token_fits c.args.graph.now.graph) (sym c.index-trees-at.is) ∙ (sym c.fits.ensures ∙ c.if-not-fits.true))

pub loop-at-preserved : goal.loop-at-preserved
loop-at-preserved c =
    let lt : c.loop-at.at < min (length c.args.claims.now) (length c.args.trees.now) = omega arith in
    fits_next (finds_token_misfits c.args.graph.now.graph) c.loop-at.invariant c.index-trees-at.result lt (ap (token_fits c.args.graph.now.graph) (sym c.index-trees-at.is) ∙ (sym c.fits.ensures ∙ c.if-not-fits.false))

pub returns : goal.returns
returns c =
    let all : c.loop-at.at ≡ c.min-both.result = omega arith in
    one_missing (finds_token_misfits c.args.graph.now.graph) (subst (FitsSoFar (token_misfit c.args.graph.now.graph) c.args.claims.now c.args.trees.now) all c.loop-at.invariant) c.min-both.ensures c.if-claims-trees.false
