use Rattle.std.proofs.Common.{◌≡◌, length}
use Rattle.tpl_series.proofs.ring.unsaid.Given as goal

abbrev pub invariant-loop : goal.invariant-loop
invariant-loop l = length l.said.items ≡ l.counter
