use Rattle.tpl_laws.specs.Verdict.{misfit}
use Rattle.tpl_checker.proofs.ShapeLemmas.{FitsSoFar}
use Rattle.tpl_checker.proofs.shape.misfit.Given as goal

abbrev pub invariant-loop-at : goal.invariant-loop-at
invariant-loop-at l = FitsSoFar (misfit l.graph.graph) l.claims l.trees l.at
