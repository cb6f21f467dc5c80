use Rattle.tpl_laws.specs.TokenTests.{token_chain}
use Rattle.tpl_checker.proofs.ChainLemmas.{ChainFrom}
use Rattle.tpl_token_leaf.specs.Leaf.{graph_of, assumed_in}
use Rattle.tpl_token_leaf.proofs.chain.leads_to_reader.Given as goal

abbrev pub invariant-loop-at : goal.invariant-loop-at
invariant-loop-at l = ChainFrom (graph_of l.leaf) (token_chain (graph_of l.leaf) (assumed_in l.leaf)) l.fn.task.0 l.chain l.at l.carrier.0
