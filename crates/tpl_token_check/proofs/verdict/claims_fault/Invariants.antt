use Rattle.tpl_laws.specs.TokenVerdict.{token_claims_fault, token_misfit}
use Rattle.tpl_checker.proofs.TreeLemmas.{ClaimsSoFar}
use Rattle.tpl_token_check.proofs.verdict.claims_fault.Given as goal

abbrev pub invariant-loop-at : goal.invariant-loop-at
invariant-loop-at l = ClaimsSoFar (token_misfit l.graph.graph) (token_claims_fault l.graph.graph) l.claims l.trees l.at
