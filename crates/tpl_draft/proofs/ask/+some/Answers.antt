use Rattle.std.proofs.Common.{arith, sym, ◌∙◌}
use Rattle.tpl_draft.specs.Ask.{asks}
use Rattle.tpl_draft.proofs.AskLemmas.{deep_in, none_more, one_is}
use Rattle.tpl_draft.proofs.ask.+some.Goals as goal

pub some_statement-some_within-requires : goal.some_statement-some_within-requires
some_statement-some_within-requires t c =
    omega (arith, c.decreases, deep_in _ _ _ _ c.loop-statement.invariant.whole c.loop-statement-test.true c.statement-item.is)

pub some_statement-returns-then-some_within : goal.some_statement-returns-then-some_within
some_statement-returns-then-some_within t c =
    one_is (asks c.args.ask.now) _ _ _ _ c.loop-statement-test.true c.statement-item.is c.loop-statement.invariant (sym c.some_within.ensures ∙ c.if-some_within.true)

pub some_statement-loop-statement-preserved : goal.some_statement-loop-statement-preserved
some_statement-loop-statement-preserved t c =
    none_more (asks c.args.ask.now) _ _ _ _ c.loop-statement-test.true c.statement-item.is c.loop-statement.invariant (sym c.some_within.ensures ∙ c.if-some_within.false)
