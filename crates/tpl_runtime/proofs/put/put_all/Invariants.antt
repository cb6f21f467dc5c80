use Rattle.std.proofs.Common.{◌≡◌}
use Rattle.tpl_runtime.proofs.put.put_all.Given as goal

abbrev pub invariant-loop-number : goal.invariant-loop-number
invariant-loop-number g l = l.pass.queue ≡ l.queue.id
