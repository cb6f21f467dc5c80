use Rattle.std.proofs.Common.{◌&&◌, length}
use Rattle.tpl_model.specs.Members.{mem}
use Rattle.tpl_laws.specs.RowTests.{takes_over}
use Rattle.tpl_token_leaf.specs.Leaf.{graph_of}
use Rattle.tpl_token_check.proofs.LevelLemmas.{NotYet}
use Rattle.tpl_token_check.proofs.shortest.first_taker.Given as goal

abbrev pub invariant-loop-number : goal.invariant-loop-number
invariant-loop-number l = NotYet (λ x. takes_over (graph_of l.leaf) x l.task.0 && mem x l.takers) (length (graph_of l.leaf).tasks) l.number
