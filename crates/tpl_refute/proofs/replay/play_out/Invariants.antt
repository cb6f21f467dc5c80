use Rattle.std.proofs.Common.{◌≡◌}
use Rattle.tpl_refute.proofs.replay.play_out.Given as goal

abbrev pub invariant-loop : goal.invariant-loop
invariant-loop l = l.core.graph ≡ l.fn.core.graph
