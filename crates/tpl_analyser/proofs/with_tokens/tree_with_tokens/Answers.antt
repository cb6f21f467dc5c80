use Rattle.std.proofs.Common.{[], IfOk, IfSome, subst}
use Rattle.tpl_model.specs.declared.ids.TaskId.{TaskId}
use Rattle.tpl_model.specs.declared.claim.Property.{Property}
use Rattle.tpl_draft.specs.Named.{Named}
use Rattle.tpl_token_leaf.specs.Leaf.{leaf_assumed}
use Rattle.tpl_analyser.specs.TokenFound.{IsFoundWithTokens}
use Rattle.tpl_analyser.proofs.with_tokens.tree_with_tokens.Goals as goal

pub returns : goal.returns
returns over c =
    let check = c.new-check.result in
    let q = c.args.question in
    let at_start = leaf_assumed c.args.assumed [] in
    subst (λ (p : Property TaskId). IfOk c.tested.result (λ found. IfSome found (IsFoundWithTokens q.graph.now.graph p q.form at_start c.args.depth))) c.new-check.ensures.property
    (subst (λ (named : Named). IfOk c.tested.result (λ found. IfSome found (IsFoundWithTokens named.graph check.property q.form at_start c.args.depth))) c.new-check.ensures.graph c.tested.ensures)
