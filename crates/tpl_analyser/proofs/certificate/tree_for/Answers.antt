use Rattle.std.proofs.Common.{◌≡◌, ◌∙◌, [], true, IfOk, IfSome, ap, subst, sym}
use Rattle.tpl_model.specs.declared.ids.TaskId.{TaskId}
use Rattle.tpl_model.specs.declared.claim.Property.{Property}
use Rattle.tpl_model.specs.declared.rule_set.RuleSet.{RuleSet}
use Rattle.tpl_model.specs.declared.rule_set.RuleSet.TheVariants.{WithoutTokens, WithTokens}
use Rattle.tpl_model.specs.Certificate.{Assumed, assumed_for}
use Rattle.tpl_checker.specs.Assumptions.{assumed_of}
use Rattle.tpl_token_leaf.specs.Leaf.{leaf_assumed}
use Rattle.tpl_analyser.specs.Found.{IsFound}
use Rattle.tpl_analyser.specs.FoundFor.{IsFoundFor}
use Rattle.tpl_analyser.specs.TokenFound.{IsFoundWithTokens}
use Rattle.tpl_analyser.proofs.certificate.tree_for.Goals as goal

pub returns-in-WithoutTokens : goal.returns-in-WithoutTokens
returns-in-WithoutTokens over c =
    let g = c.args.graph.now.graph in
    let claim = c.args.claim.now in
    let form = c.args.form in
    let depth = c.args.depth in
    let r = c.tree_without_tokens.result in
    let assumed = c.assumed_for-assumed.result in
    let same : assumed_of assumed ≡ assumed_for WithoutTokens g claim = c.assumed_for-assumed.ensures ∙ ap (λ (z : RuleSet). assumed_for z g claim) c.in-WithoutTokens.is in
    let found = subst (λ (a : Assumed). IfOk r (λ found. IfSome found (IsFound g claim.body form a depth))) same
    (subst (λ (p : Property TaskId). IfOk r (λ found. IfSome found (IsFound g p form (assumed_of assumed) depth))) c.body-2.ensures c.tree_without_tokens.ensures) in
    subst (λ (z : RuleSet). IfOk r (λ found. IfSome found (IsFoundFor z g claim form depth))) (sym c.in-WithoutTokens.is) found

pub returns-in-WithTokens : goal.returns-in-WithTokens
returns-in-WithTokens over c =
    let g = c.args.graph.now.graph in
    let claim = c.args.claim.now in
    let form = c.args.form in
    let depth = c.args.depth in
    let r = c.tree_with_tokens.result in
    let assumed = c.assumed_for-assumed.result in
    let same : assumed_of assumed ≡ assumed_for WithTokens g claim = c.assumed_for-assumed.ensures ∙ ap (λ (z : RuleSet). assumed_for z g claim) c.in-WithTokens.is in
    let found = subst (λ (a : Assumed). IfOk r (λ found. IfSome found (IsFoundWithTokens g claim.body form (record { assumed = a; wins = λ n x. true }) depth))) same
    (subst (λ (p : Property TaskId). IfOk r (λ found. IfSome found (IsFoundWithTokens g p form (leaf_assumed assumed []) depth))) c.body-2.ensures c.tree_with_tokens.ensures) in
    subst (λ (z : RuleSet). IfOk r (λ found. IfSome found (IsFoundFor z g claim form depth))) (sym c.in-WithTokens.is) found
