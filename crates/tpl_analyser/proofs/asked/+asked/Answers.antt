use Rattle.std.proofs.Common.{arith}
use Rattle.tpl_model.proofs.Lists.{falls_in}
use Rattle.tpl_analyser.proofs.asked.+asked.Goals as goal

pub asks_for-statement_asks_for-requires : goal.asks_for-statement_asks_for-requires
asks_for-statement_asks_for-requires t c =
    omega (arith, c.decreases, falls_in _ _ _ _ c.loop-statement.invariant c.loop-statement-test.true c.statement-item.is)
