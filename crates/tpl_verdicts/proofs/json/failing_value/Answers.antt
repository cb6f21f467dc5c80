use Rattle.std.proofs.Common.{◌∙◌, ℕ, List, ap, map}
use Rattle.std.proofs.lemmas.Result.{IfOk-weaker}
use Rattle.serde_json.specs.View.{view}
use Rattle.tpl_verdicts.specs.Json.{failed_data}
use Rattle.tpl_verdicts.proofs.json.failing_value.Goals as goal

pub returns : goal.returns
returns c =
    let causes = map view c.in_ok-causes.causes.items in
    let there = view c.in_ok-value.value in
    IfOk-weaker c.failed_value.result _ _ (λ value is.
    (causes, there, c.in_ok-causes.ensures, c.in_ok-value.ensures, is ∙ ap (λ (words : List ℕ). failed_data c.args.judgement.now.number causes there words) c.requires.text)) c.failed_value.ensures
