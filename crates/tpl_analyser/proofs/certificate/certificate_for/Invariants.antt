use Rattle.tpl_analyser.proofs.GapLemmas.{FoundSoFar}
use Rattle.tpl_analyser.proofs.certificate.certificate_for.Given as goal

abbrev pub invariant-loop-at : goal.invariant-loop-at
invariant-loop-at over l = FoundSoFar l.made.rules l.graph.graph l.claims l.form l.depth l.at l.trees.items
