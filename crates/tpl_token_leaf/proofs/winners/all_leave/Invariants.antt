use Rattle.std.proofs.Common.{◌≡◌, drop}
use Rattle.tpl_token_leaf.specs.Winners.{all_leave}
use Rattle.tpl_token_leaf.proofs.winners.all_leave.Given as goal

abbrev pub invariant-loop-split : goal.invariant-loop-split
invariant-loop-split l = all_leave l.splits l.task.0 l.argument.0 ≡ all_leave (drop l.split-index l.splits) l.task.0 l.argument.0
