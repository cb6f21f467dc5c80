-- Claims that are told one after another with the verdicts on them.
use Rattle.std.specs.Prelude.{◌≡◌, ◌<◌, ℕ, List, length, map, Option, None, option_map, slice_index_or, string_bytes, take}
use Rattle.std.specs.List.{All, AllZip, flat_map}
use Rattle.tpl_model.specs.Claims.{Claim}
use Rattle.tpl_draft.specs.Named.{Named}
use Rattle.tpl_graph.specs.Fits.{Fits}
use Rattle.tpl_model.specs.declared.rule_set.RuleSet.{RuleSet}
use Rattle.tpl_verify.specs.Beside.{IsVerdictAt}
use Rattle.tpl_verify.specs.declared.verdict.Verdict.{Verdict}
use Rattle.tpl_verify.specs.Verdicts.{IsVerdict, KeepsTo}
use Rattle.tpl_verdicts.specs.declared.asked.Asked.{Asked}
use Rattle.tpl_verdicts.specs.declared.entry.Entry.{Entry}
use Rattle.tpl_verdicts.specs.Lines.{AreNumbered, IsEntry, entry_text}
use Rattle.tpl_verdicts.specs.Told.{Told, told}

-- the name of each claim that has one
abbrev pub names_of : Asked → List (Option (List ℕ))
names_of asked = map (λ name. option_map string_bytes name) asked.names.now

-- a claim with the name that stands at this place, if there is one, and the verdict on it
abbrev pub told_there : List (Option (List ℕ)) → ℕ → Claim → Verdict → Told
told_there names place claim verdict = record { claim = claim; name = slice_index_or names place None; verdict = verdict }

-- there is a claim at this place, and this is a true verdict on it, which keeps to the most splits and runs
pub record IsOneOf (asked : Asked) (place : ℕ) (verdict : Verdict) : Type 0 where
  pub within : place < length asked.claims.now
  pub fits : All (Fits asked.graph.now.graph) asked.claims.now
  pub true_of : IsVerdictAt asked.searched.rules asked.graph.now.graph asked.claims.now place verdict
  pub kept : KeepsTo asked.searched.depth asked.searched.runs verdict

-- The text says what the verdicts on the first claims of a graph are, each of which is true, by certificates with at most so
-- many splits and by so many random runs.
pub record AreFirst (rules : RuleSet) (depth runs : ℕ) (graph : Named) (claims : List Claim) (names : List (Option (List ℕ))) (verdicts : List Verdict) (text : List ℕ) : Type 0 where
  pub true_of : AllZip (IsVerdict rules graph.graph) (take (length verdicts) claims) verdicts
  pub within : All (KeepsTo depth runs) verdicts
  pub entries : List Entry
  pub are_entries : AreNumbered (IsEntry graph.names) 1 (told claims names verdicts) entries
  pub says : text ≡ flat_map entry_text entries

-- the text says what the verdicts on the first of these claims are
abbrev pub TellsFirst : Asked → List Verdict → List ℕ → Type 0
TellsFirst asked verdicts text =
    AreFirst asked.searched.rules asked.searched.depth asked.searched.runs asked.graph.now asked.claims.now (names_of asked) verdicts text
