use Rattle.std.proofs.Common.{length}
use Rattle.tpl_token_leaf.specs.Leaf.{graph_of, assumed_in}
use Rattle.tpl_token_check.proofs.LevelLemmas.{DownTo}
use Rattle.tpl_token_check.proofs.shortest.chain_down.Given as goal

abbrev pub invariant-loop-at : goal.invariant-loop-at
invariant-loop-at l = DownTo (graph_of l.leaf) (assumed_in l.leaf) (length l.levels) l.fn.task.0 l.at l.carrier.0 l.chain.items
