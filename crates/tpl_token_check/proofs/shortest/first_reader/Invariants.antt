use Rattle.std.proofs.Common.{length}
use Rattle.tpl_laws.specs.LeastRows.{is_reader}
use Rattle.tpl_token_leaf.specs.Leaf.{graph_of, assumed_in}
use Rattle.tpl_token_check.proofs.LevelLemmas.{NotYet}
use Rattle.tpl_token_check.proofs.shortest.first_reader.Given as goal

abbrev pub invariant-loop-number : goal.invariant-loop-number
invariant-loop-number l = NotYet (is_reader (graph_of l.leaf) (assumed_in l.leaf) l.task.0) (length (graph_of l.leaf).tasks) l.number
