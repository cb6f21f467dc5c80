use Rattle.tpl_model.specs.Certificate.{plain}
use Rattle.tpl_checker.proofs.CompleteLemmas.{NoneStuck}
use Rattle.tpl_token_leaf.specs.Leaf.{graph_of, rows_in}
use Rattle.tpl_token_leaf.proofs.property.none_complete.Given as goal

abbrev pub invariant-loop-number : goal.invariant-loop-number
invariant-loop-number l = NoneStuck (graph_of l.leaf) (plain (rows_in l.leaf)) l.number
