use Rattle.std.proofs.Common.{arith}
use Rattle.tpl_model.proofs.Lists.{falls_in}
use Rattle.tpl_outline.proofs.cancels.+cancels.Goals as goal

pub cancels_quiet-statement_cancels_quiet-requires : goal.cancels_quiet-statement_cancels_quiet-requires
cancels_quiet-statement_cancels_quiet-requires t c =
    omega (arith, c.decreases, falls_in _ _ _ _ c.loop-statement.invariant c.loop-statement-test.true c.statement-item.is)
