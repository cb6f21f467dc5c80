use Rattle.std.proofs.Common.{arith}
use Rattle.tpl_draft.proofs.AskLemmas.{deep_in}
use Rattle.tpl_graph.proofs.collect.+collect.Goals as goal

pub collect-collect_within-requires : goal.collect-collect_within-requires
collect-collect_within-requires t c =
    (omega (arith, c.decreases, deep_in _ _ _ _ c.loop-statement.invariant.starts.whole c.loop-statement-test.true c.statement-item.is), c.loop-statement.invariant.short)
