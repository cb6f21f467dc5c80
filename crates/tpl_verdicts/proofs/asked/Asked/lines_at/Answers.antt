use Rattle.std.proofs.Common.{◌≡◌, ◌+◌, ◌++◌, ◌∷◌, [], List, ℕ, length, subst, sym}
use Rattle.std.proofs.lemmas.Result.{IfOk-weaker}
use Rattle.tpl_draft.specs.Named.{Named}
use Rattle.tpl_verdicts.specs.Asked.{TellsFirst}
use Rattle.tpl_verdicts.specs.Lines.{IsEntry}
use Rattle.tpl_verdicts.specs.Told.{Told, told_of}
use Rattle.tpl_verdicts.proofs.AskedLemmas.{text_next}
use Rattle.tpl_verdicts.proofs.asked.Asked.lines_at.Goals as goal

pub returns : goal.returns
returns c =
    let asked = c.args.self.now in
    let v = c.args.verdict.now in
    let it = c.at.result in
    let of_graph = subst (λ (g : Named). IsEntry g.names it.number (told_of it) c.in_ok-entry.entry) c.at.ensures.graph c.in_ok-entry.ensures in
    let at_place = subst (λ (n : ℕ). IsEntry asked.graph.now.names n (told_of it) c.in_ok-entry.entry) c.at.ensures.number of_graph in
    let is_entry = subst (λ (t : Told). IsEntry asked.graph.now.names (c.args.place + 1) t c.in_ok-entry.entry) c.at.ensures.told at_place in
    IfOk-weaker c.entry_text.result _ _
    (λ text same. subst (λ (t : List ℕ). (values : _) (before : List ℕ) → length values ≡ c.args.place → TellsFirst asked values before → TellsFirst asked (values ++ v ∷ []) (before ++ t)) (sym same)
    (text_next asked c.args.place v (told_of it).claim c.in_ok-entry.entry c.at.ensures.claim c.requires is_entry))
    c.entry_text.ensures
