use Rattle.std.proofs.Common.{length}
use Rattle.tpl_model.specs.TokenRules.{kind_left}
use Rattle.tpl_laws.specs.TokenTests.{is_won_by}
use Rattle.tpl_token_leaf.specs.Leaf.{graph_of, assumed_in}
use Rattle.tpl_token_check.proofs.ReaderLemmas.{WonSoFar}
use Rattle.tpl_token_check.proofs.readers.sole_winner_of.Given as goal

abbrev pub invariant-loop-arg : goal.invariant-loop-arg
invariant-loop-arg l = WonSoFar (length (graph_of l.leaf).tasks) (is_won_by (kind_left (graph_of l.leaf) (assumed_in l.leaf) l.task.0)) l.args l.arg-index l.winner
