use Rattle.std.proofs.Common.{◌≡◌}
use Rattle.tpl_refute.proofs.replay.let_all_act.Given as goal

abbrev pub invariant-loop-number : goal.invariant-loop-number
invariant-loop-number l = l.core.graph ≡ l.fn.core.graph
