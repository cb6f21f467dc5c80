use Rattle.std.proofs.Common.{ℕ, map, option_map, string_bytes, subst, arith}
use Rattle.tpl_draft.specs.Named.{Named}
use Rattle.tpl_verdicts.specs.Lines.{IsEntry}
use Rattle.tpl_verdicts.specs.Told.{all_told, told_of}
use Rattle.tpl_verdicts.proofs.EntryLemmas.{numbered_all, numbered_more, told_short}
use Rattle.tpl_verdicts.proofs.entries.entries.Goals as goal

pub loop-place-preserved : goal.loop-place-preserved
loop-place-preserved c =
    let all = c.args.all.now in
    let of_graph = subst (λ (g : Named). IsEntry g.names c.at.result.number (told_of c.at.result) c.in_ok-entry.entry) c.at.ensures.graph c.in_ok-entry.ensures in
    let one = subst (λ (n : ℕ). IsEntry all.graph.now.names n (told_of c.at.result) c.in_ok-entry.entry) c.at.ensures.number of_graph in
    numbered_more (IsEntry all.graph.now.names) (all_told all) c.loop-place.entries.items c.push.new.self.items c.loop-place.place (told_of c.at.result) c.in_ok-entry.entry c.at.ensures.told c.loop-place.invariant one c.in_ok-push.ensures.items

pub returns : goal.returns
returns c =
    let all = c.args.all.now in
    let short = told_short all.claims.now (map (λ name. option_map string_bytes name) all.names.now) all.verdicts.now in
    numbered_all (IsEntry all.graph.now.names) (all_told all) c.loop-place.entries.items c.loop-place.place (omega (arith, short)) c.loop-place.invariant
