use Rattle.tpl_token_leaf.specs.Leaf.{assumed_in}
use Rattle.tpl_token_leaf.proofs.TokenChainLemmas.{AloneSoFar}
use Rattle.tpl_token_leaf.proofs.chain.wins_alone.Given as goal

abbrev pub invariant-loop-arg : goal.invariant-loop-arg
invariant-loop-arg l = AloneSoFar ((assumed_in l.leaf).wins l.task.0) l.argument.0 l.args l.arg-index
