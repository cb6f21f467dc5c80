use Rattle.std.proofs.Common.{sym, ◌∙◌}
use Rattle.tpl_draft.proofs.ListTestLemmas.{rest_misplaced}
use Rattle.tpl_draft.proofs.refusals.are_misplaced.Goals as goal

pub returns-else-is_empty : goal.returns-else-is_empty
returns-else-is_empty c =
    rest_misplaced c.args.number c.args.tokens.now _ (sym c.is_empty.ensures ∙ c.if-is_empty.false) c.some_not_before.ensures
