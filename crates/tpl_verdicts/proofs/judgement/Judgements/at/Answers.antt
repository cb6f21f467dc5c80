use Rattle.std.proofs.Common.{◌∙◌, ap, map, option_map, refl, string_bytes, sym, Some}
use Rattle.std.proofs.lemmas.Option.{slice_get_read}
use Rattle.tpl_verdicts.proofs.EntryLemmas.{claim_fits, has_claim, told_at, verdict_at}
use Rattle.tpl_verdicts.proofs.judgement.Judgements.at.Goals as goal

pub bounds-claims-place : goal.bounds-claims-place
bounds-claims-place c =
    let all = c.args.self.now in has_claim all.searched.rules all.graph.now.graph all.claims.now all.verdicts.now c.requires.right.verdicts c.args.place c.requires.place

pub returns-clause-right : goal.returns-clause-right
returns-clause-right c =
    let all = c.args.self.now in
    record {
      fits = claim_fits all.searched.rules all.graph.now.graph all.claims.now all.verdicts.now c.requires.right.verdicts c.args.place c.requires.place c.index-claims-place.result c.index-claims-place.is c.requires.right.fits;
      verdict = verdict_at all.searched.rules all.graph.now.graph all.claims.now all.verdicts.now c.requires.right.verdicts c.args.place c.requires.place c.index-claims-place.result c.index-verdicts-place.result c.index-claims-place.is c.index-verdicts-place.is;
    }

pub returns-clause-told : goal.returns-clause-told
returns-clause-told c =
    let all = c.args.self.now in
    let at = c.args.place in
    let claim = c.index-claims-place.result in
    let verdict = c.index-verdicts-place.result in
    let names = map (λ name. option_map string_bytes name) all.names.now in
    let there = has_claim all.searched.rules all.graph.now.graph all.claims.now all.verdicts.now c.requires.right.verdicts at c.requires.place in
    told_at all.claims.now names all.verdicts.now at claim verdict
    (slice_get_read all.claims.now _ at claim refl there c.index-claims-place.is)
    (slice_get_read all.verdicts.now _ at verdict refl c.requires.place c.index-verdicts-place.is)
    ∙ ap (λ name. Some (record { claim = claim; name = name; verdict = verdict })) (sym c.name_at-name.ensures)
