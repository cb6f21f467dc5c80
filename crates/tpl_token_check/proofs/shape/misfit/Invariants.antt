use Rattle.tpl_laws.specs.TokenVerdict.{token_misfit}
use Rattle.tpl_checker.proofs.ShapeLemmas.{FitsSoFar}
use Rattle.tpl_token_check.proofs.shape.misfit.Given as goal

abbrev pub invariant-loop-at : goal.invariant-loop-at
invariant-loop-at l = FitsSoFar (token_misfit l.graph.graph) l.claims l.trees l.at
