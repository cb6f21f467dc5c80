use Rattle.tpl_token_leaf.specs.Leaf.{graph_of, assumed_in}
use Rattle.tpl_token_check.proofs.LevelLemmas.{LevelsSoFar}
use Rattle.tpl_token_check.proofs.shortest.shortest_chain.Given as goal

abbrev pub invariant-loop : goal.invariant-loop
invariant-loop l = LevelsSoFar (graph_of l.leaf) (assumed_in l.leaf) l.task.0 l.counter l.levels.items l.level
