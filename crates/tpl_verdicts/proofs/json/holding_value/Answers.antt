use Rattle.std.proofs.Common.{◌∙◌, ℕ, List, Option, ap, subst, sym}
use Rattle.std.proofs.lemmas.Result.{IfOk-weaker}
use Rattle.serde_json.specs.View.{view}
use Rattle.serde_json.specs.declared.value.Value.{Value}
use Rattle.tpl_verify.specs.declared.verdict.Empty.{Empty}
use Rattle.tpl_verify.specs.declared.verdict.Verdict.TheVariants as verdict
use Rattle.tpl_verdicts.specs.Json.{IsClaimData, held_data}
use Rattle.tpl_verdicts.proofs.json.holding_value.Goals as goal

pub returns-in-None : goal.returns-in-None
returns-in-None c =
    let it = c.args.judgement.now in
    let names = it.graph.now.names in
    let tree = view c.in_ok-tree.tree in
    let Said : Option Empty → Value → Type 0 = λ why value. IsClaimData it.searched.rules names it.number it.claim.now (verdict.Holds c.args.certificate.now c.args.splits why) (view value) in
    IfOk-weaker c.held_value.result _ _ (λ value is.
    subst (λ (why : Option Empty). Said why value) (sym c.in-None.is)
    (tree, c.in_ok-tree.ensures, is ∙ ap (λ (words : List ℕ). held_data it.number c.args.splits words tree) c.requires.text)) c.held_value.ensures
