use Rattle.tpl_token_leaf.proofs.LinkLemmas.{LinkedSoFar}
use Rattle.tpl_token_leaf.proofs.linking.links_of.Given as goal

abbrev pub invariant-loop-number : goal.invariant-loop-number
invariant-loop-number l = LinkedSoFar l.graph.graph l.token.0 l.number l.found
