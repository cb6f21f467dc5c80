use Rattle.tpl_graph.specs.Fits.{Fits}
use Rattle.tpl_refute.proofs.replay.replay.Given as goal

abbrev pub invariant-loop-place : goal.invariant-loop-place
invariant-loop-place l = Fits l.core.graph l.case.claim.now
