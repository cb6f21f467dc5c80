use Rattle.std.proofs.Common.{length}
use Rattle.tpl_model.specs.Certificate.{plain}
use Rattle.tpl_token_leaf.specs.Leaf.{graph_of, assumed_in, rows_in}
use Rattle.tpl_token_leaf.proofs.Winning.{EndsSoFar}
use Rattle.tpl_token_leaf.proofs.leaf.Leaf.winner_ends.Given as goal

abbrev pub invariant-loop-arg : goal.invariant-loop-arg
invariant-loop-arg l = EndsSoFar (length (graph_of l.self).tasks) ((assumed_in l.self).wins l.task.0) (plain (rows_in l.self)) l.args l.arg-index l.finals
