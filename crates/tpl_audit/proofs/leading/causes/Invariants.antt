use Rattle.std.proofs.Common.{◌≡◌, length}
use Rattle.tpl_audit.proofs.leading.causes.Given as goal

abbrev pub invariant-loop : goal.invariant-loop
invariant-loop l = length l.led.items ≡ l.index

abbrev pub invariant-loop-place : goal.invariant-loop-place
invariant-loop-place l = length l.led.items ≡ length l.events
