use Rattle.std.proofs.Common.{drop}
use Rattle.tpl_audit.proofs.HoldsLemmas.{GivenFrom}
use Rattle.tpl_audit.proofs.run.are_given.Given as goal

abbrev pub invariant-loop-one : goal.invariant-loop-one
invariant-loop-one g l = let j = g.C.Core.journal l.core in GivenFrom j.graph j.inputs j.events l.given (drop l.one-index l.given)
