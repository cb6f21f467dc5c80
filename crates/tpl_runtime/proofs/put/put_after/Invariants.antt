use Rattle.std.proofs.Common.{◌≡◌}
use Rattle.tpl_runtime.proofs.put.put_after.Given as goal

abbrev pub invariant-loop-place : goal.invariant-loop-place
invariant-loop-place g l = l.pass.queue ≡ l.queue.id

abbrev pub invariant-loop-child : goal.invariant-loop-child
invariant-loop-child g l = l.pass.queue ≡ l.queue.id
