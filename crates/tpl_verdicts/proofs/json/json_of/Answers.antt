use Rattle.std.proofs.Common.{◌≤◌, ◌∙◌, map, sym, subst, string_bytes, ap, Some}
use Rattle.serde_json.specs.Data.{Data, depth}
use Rattle.serde_json.specs.View.{view}
use Rattle.tpl_verdicts.specs.Json.{verdicts_data}
use Rattle.tpl_verdicts.specs.Told.{all_told}
use Rattle.tpl_verdicts.proofs.JsonLemmas.{whole_depth}
use Rattle.tpl_verdicts.proofs.json.json_of.Goals as goal

pub returns : goal.returns
returns c =
    let all = c.args.all.now in
    let ds = map view c.in_ok-values.values.items in
    let value = c.in_ok-whole_value.ensures in
    let shallow = subst (λ (d : Data). depth d ≤ 127) (sym value) (whole_depth all.searched.rules all.graph.now.names (all_told all) c.deref.result.now ds c.in_ok-values.ensures) in
    (ds, string_bytes c.in_ok-text.text, c.in_ok-values.ensures, c.in_ok-text.ensures.reads_back shallow ∙ ap (λ (d : Data). Some d) (value ∙ ap (verdicts_data ds) (c.deref.ensures.value ∙ c.in_ok-words.ensures)), c.in_ok-push_str.ensures.bytes)
