use Rattle.tpl_audit.proofs.HoldsLemmas.{WalksUp}
use Rattle.tpl_audit.proofs.run.settled_before.Given as goal

abbrev pub invariant-loop-at : goal.invariant-loop-at
invariant-loop-at g l = let j = g.C.Core.journal l.core in WalksUp j.graph j.inputs j.events l.place l.fn.task.0 l.at.0

abbrev pub decreases-loop-at : goal.decreases-loop-at
decreases-loop-at g l = l.at.0
