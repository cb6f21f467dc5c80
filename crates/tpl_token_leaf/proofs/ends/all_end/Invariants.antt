use Rattle.std.proofs.Common.{length}
use Rattle.tpl_model.specs.Certificate.{plain}
use Rattle.tpl_checker.proofs.AllEndLemmas.{EndsByFirst}
use Rattle.tpl_token_leaf.specs.Leaf.{graph_of, rows_in}
use Rattle.tpl_token_leaf.proofs.ends.all_end.Given as goal

abbrev pub invariant-loop-arg : goal.invariant-loop-arg
invariant-loop-arg l = EndsByFirst (length (graph_of l.leaf).tasks) (plain (rows_in l.leaf)) l.args l.arg-index l.found
