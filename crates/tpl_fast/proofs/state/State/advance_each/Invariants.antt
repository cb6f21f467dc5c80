use Rattle.std.proofs.Common.{◌≡◌}
use Rattle.tpl_fast.proofs.state.State.advance_each.Given as goal

abbrev pub invariant-loop-task : goal.invariant-loop-task
invariant-loop-task l = l.self ≡ l.fn.self
