use Rattle.std.specs.Prelude.{IfSome}
use Rattle.tpl_laws.specs.Verdict.{claims_fault, misfit}
use Rattle.tpl_checker.specs.Last.{IsLast}
use Rattle.tpl_checker.proofs.TreeLemmas.{ClaimsSoFar}
use Rattle.tpl_checker.proofs.verdict.claims_fault.Given as goal

abbrev pub invariant-loop-at : goal.invariant-loop-at
invariant-loop-at l = ClaimsSoFar (misfit l.graph.graph) (claims_fault l.graph.graph) l.claims l.trees l.at × IfSome l.last (IsLast l.graph.graph)
