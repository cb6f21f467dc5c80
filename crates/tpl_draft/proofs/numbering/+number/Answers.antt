use Rattle.std.proofs.Common.{arith, ◌∙◌}
use Rattle.tpl_draft.specs.Tables.{seen}
use Rattle.tpl_draft.proofs.AskLemmas.{deep_in}
use Rattle.tpl_draft.proofs.NumberLemmas.{one_numbered, all_numbered}
use Rattle.tpl_draft.proofs.numbering.+number.Goals as goal

pub number_body-number_statement-requires : goal.number_body-number_statement-requires
number_body-number_statement-requires t c =
    (omega (arith, c.decreases, deep_in _ _ _ _ c.loop-statement.invariant.to.whole c.loop-statement-test.true c.statement-item.is), c.loop-statement.invariant.few)

pub number_body-loop-statement-preserved : goal.number_body-loop-statement-preserved
number_body-loop-statement-preserved t c =
    record {
      few = c.loop-statement.invariant.few;
      to = one_numbered (seen c.args.tables.now) _ _ _ _ _ _ _ c.loop-statement-test.true c.statement-item.is c.loop-statement.invariant.to c.in_ok-number_statement.ensures c.in_ok-push.ensures.items;
    }

pub number_body-returns : goal.number_body-returns
number_body-returns t c =
    c.new.ensures ∙ all_numbered (seen c.args.tables.now) _ _ _ _ c.loop-statement-test.false c.loop-statement.invariant.to

pub number_statement-returns-in-Return : goal.number_statement-returns-in-Return
number_statement-returns-in-Return t c = rw c.in-Return.is

pub number_statement-returns-in-Throw : goal.number_statement-returns-in-Throw
number_statement-returns-in-Throw t c = rw (c.in-Throw.is, c.label_id.ensures, c.as_str.ensures.value)

pub number_statement-returns-in-Check : goal.number_statement-returns-in-Check
number_statement-returns-in-Check t c = rw (c.in-Check.is, c.token_id.ensures, c.as_str-in-Check.ensures.value)

pub number_statement-returns-in-Cancel : goal.number_statement-returns-in-Cancel
number_statement-returns-in-Cancel t c = rw (c.in-Cancel.is, c.token_id-in-Cancel.ensures, c.as_str-in-Cancel.ensures.value)

pub number_statement-returns-in-Start : goal.number_statement-returns-in-Start
number_statement-returns-in-Start t c = rw (c.in-Start.is, c.task_id.ensures, c.as_str-in-Start.ensures.value)

pub number_statement-returns-in-Observe : goal.number_statement-returns-in-Observe
number_statement-returns-in-Observe t c = rw c.in-Observe.is

pub number_statement-returns-in-Work : goal.number_statement-returns-in-Work
number_statement-returns-in-Work t c = rw (c.in-Work.is, c.site_id.ensures, c.as_str-in-Work.ensures.value)

pub number_statement-returns-in_ok-no-in-If : goal.number_statement-returns-in_ok-no-in-If
number_statement-returns-in_ok-no-in-If t c =
    rw (c.in-If.is, c.input_id.ensures, c.as_str-in-If.ensures.value, c.in_ok-yes-in-If.ensures, c.in_ok-no-in-If.ensures)

pub number_statement-returns-in_ok-no-in-When : goal.number_statement-returns-in_ok-no-in-When
number_statement-returns-in_ok-no-in-When t c =
    rw (c.in-When.is, c.in_ok-yes-in-When.ensures, c.in_ok-no-in-When.ensures)
