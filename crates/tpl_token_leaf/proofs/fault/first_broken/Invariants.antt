use Rattle.std.proofs.Common.{length}
use Rattle.tpl_checker.proofs.LeafLemmas.{NoneBroken}
use Rattle.tpl_laws.specs.TokenTests.{token_first_broken}
use Rattle.tpl_token_leaf.specs.Leaf.{graph_of, assumed_in, rows_in}
use Rattle.tpl_token_leaf.proofs.fault.first_broken.Given as goal

abbrev pub invariant-loop-number : goal.invariant-loop-number
invariant-loop-number l = NoneBroken (token_first_broken (graph_of l.leaf) (assumed_in l.leaf) (rows_in l.leaf)) (length (graph_of l.leaf).tasks) l.number
