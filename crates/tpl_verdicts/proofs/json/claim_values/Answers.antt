use Rattle.std.proofs.Common.{ℕ, ◌∙◌, ap, map, option_map, string_bytes, subst, arith}
use Rattle.std.proofs.lemmas.List.{map_push}
use Rattle.serde_json.specs.View.{view}
use Rattle.tpl_draft.specs.Named.{Named}
use Rattle.tpl_model.specs.declared.rule_set.RuleSet.{RuleSet}
use Rattle.tpl_verdicts.specs.Json.{IsClaimData, IsNamedData}
use Rattle.tpl_verdicts.specs.Told.{all_told, told_of}
use Rattle.tpl_verdicts.proofs.EntryLemmas.{numbered_all, numbered_more, told_short}
use Rattle.tpl_verdicts.proofs.JsonLemmas.{claim_object}
use Rattle.tpl_verdicts.proofs.json.claim_values.Goals as goal

pub with_name-requires : goal.with_name-requires
with_name-requires c =
    let judgement = c.at-judgement.result in
    claim_object judgement.searched.rules judgement.graph.now.names judgement.number judgement.claim.now judgement.verdict.now (view c.in_ok-plain.plain) c.in_ok-plain.ensures

pub loop-place-preserved : goal.loop-place-preserved
loop-place-preserved c =
    let all = c.args.all.now in
    let judgement = c.at-judgement.result in
    let claim = judgement.claim.now in
    let verdict = judgement.verdict.now in
    let plain = view c.in_ok-plain.plain in
    let rules = all.searched.rules in
    let by_rules = subst (λ (r : RuleSet). IsClaimData r judgement.graph.now.names judgement.number claim verdict plain) c.at-judgement.ensures.rules c.in_ok-plain.ensures in
    let of_graph = subst (λ (g : Named). IsClaimData rules g.names judgement.number claim verdict plain) c.at-judgement.ensures.graph by_rules in
    let one = subst (λ (n : ℕ). IsClaimData rules all.graph.now.names n claim verdict plain) c.at-judgement.ensures.number of_graph in
    numbered_more (IsNamedData all.searched.rules all.graph.now.names) (all_told all) (map view c.loop-place.values.items) (map view c.push.new.self.items) c.loop-place.place (told_of judgement) (view c.in_ok-value.value) c.at-judgement.ensures.told c.loop-place.invariant (plain, one, c.in_ok-value.ensures)
    (ap (map view) c.in_ok-push.ensures.items ∙ map_push view c.loop-place.values.items c.in_ok-value.value)

pub returns : goal.returns
returns c =
    let all = c.args.all.now in
    let short = told_short all.claims.now (map (λ name. option_map string_bytes name) all.names.now) all.verdicts.now in
    numbered_all (IsNamedData all.searched.rules all.graph.now.names) (all_told all) (map view c.loop-place.values.items) c.loop-place.place (omega (arith, short)) c.loop-place.invariant
