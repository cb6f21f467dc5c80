use Rattle.std.proofs.Common.{◌≡◌, length}
use Rattle.tpl_verify.proofs.beside.places.Given as goal

abbrev pub invariant-loop : goal.invariant-loop
invariant-loop l = length l.places.items ≡ l.counter
