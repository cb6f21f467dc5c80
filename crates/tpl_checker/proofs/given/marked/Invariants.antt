use Rattle.tpl_checker.proofs.GivenLemmas.{MarkedSoFar}
use Rattle.tpl_checker.proofs.given.marked.Given as goal

abbrev pub invariant-loop-token : goal.invariant-loop-token
invariant-loop-token l = MarkedSoFar l.initial.quiet l.quiet l.tokens l.token-index
