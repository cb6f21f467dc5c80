use Rattle.std.proofs.Common.{◌∙◌}
use Rattle.tpl_draft.proofs.ListTestLemmas.{first_bad, second_bad}
use Rattle.tpl_draft.proofs.refusals.bad_name_in_lists.Goals as goal

pub returns-then-bad_input : goal.returns-then-bad_input
returns-then-bad_input c =
    c.if-bad_input.true ∙ first_bad c.args.draft.now c.some_bad_name-bad_input.result c.some_bad_token-bad_token.result (rw c.deref.ensures.value at c.some_bad_name-bad_input.ensures) (rw c.deref-2.ensures.value at c.some_bad_token-bad_token.ensures) c.if-bad_input.true

pub returns-else-bad_input : goal.returns-else-bad_input
returns-else-bad_input c =
    second_bad c.args.draft.now c.some_bad_name-bad_input.result c.some_bad_token-bad_token.result (rw c.deref.ensures.value at c.some_bad_name-bad_input.ensures) (rw c.deref-2.ensures.value at c.some_bad_token-bad_token.ensures) c.if-bad_input.false
