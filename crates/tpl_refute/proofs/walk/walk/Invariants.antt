use Rattle.tpl_graph.specs.Fits.{Fits}
use Rattle.tpl_refute.proofs.walk.walk.Given as goal

abbrev pub invariant-loop : goal.invariant-loop
invariant-loop l = Fits l.core.graph l.claim
