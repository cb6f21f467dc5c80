use Rattle.std.proofs.Common.{length}
use Rattle.tpl_token_leaf.specs.Leaf.{graph_of, assumed_in, rows_in}
use Rattle.tpl_token_leaf.proofs.PastLemmas.{AfterEach}
use Rattle.tpl_token_leaf.proofs.past.after_winners.Given as goal

abbrev pub invariant-loop-arg : goal.invariant-loop-arg
invariant-loop-arg l = AfterEach (length (graph_of l.leaf).tasks) ((assumed_in l.leaf).wins l.task.0) (rows_in l.leaf) l.args l.arg-index l.facts
