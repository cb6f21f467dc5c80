-- One claim more that is told with the verdict on it.
use Rattle.std.proofs.Common.{◌≡◌, ◌∙◌, ℕ, suc, ◌+◌, ◌≤◌, ◌++◌, Option, Some, List, [], ◌∷◌, length, take, ap, ap₂, subst, sym, refl, append-nil, arith}
use Rattle.std.specs.Prelude.{slice_get}
use Rattle.std.specs.List.{AllZip, flat_map}
use Rattle.std.proofs.lemmas.Grind.{flat_map-append}
use Rattle.std.proofs.lemmas.List.{take_all}
use Rattle.std.proofs.lemmas.List.Elements.{All-append, All-cons, All-nil}
use Rattle.std.proofs.lemmas.Option.{slice_get_within}
use Rattle.tpl_model.specs.declared.rule_set.RuleSet.{RuleSet}
use Rattle.tpl_model.specs.Claims.{Claim}
use Rattle.tpl_draft.specs.Named.{Named}
use Rattle.tpl_verify.specs.declared.verdict.Verdict.{Verdict}
use Rattle.tpl_verify.specs.Verdicts.{IsVerdict, KeepsTo}
use Rattle.tpl_verdicts.specs.declared.entry.Entry.{Entry}
use Rattle.tpl_series.specs.Told.{IsNext}
use Rattle.tpl_verdicts.specs.declared.asked.Asked.{Asked}
use Rattle.tpl_verdicts.specs.Asked.{AreFirst, IsOneOf, TellsFirst, names_of, told_there}
use Rattle.tpl_verdicts.specs.Lines.{AreNumbered, IsEntry, entry_text}
use Rattle.tpl_verdicts.specs.Told.{Told, told}
use Rattle.tpl_verdicts.proofs.EntryLemmas.{numbered_snoc}

-- one pair more
zip_more : {X Y : Type 0} (R : X → Y → Type 0) (xs : List X) (ys : List Y) (x : X) (y : Y) → slice_get xs (length ys) ≡ Some x → AllZip R (take (length ys) xs) ys → R x y → AllZip R (take (length (ys ++ y ∷ [])) xs) (ys ++ y ∷ [])
zip_more R [] ys x y there all one = absurd cc
zip_more {X} R (a ∷ xs) [] x y there all one = let same : a ≡ x = cc in (subst (λ (z : X). R z y) (sym same) one, tt)
zip_more R (a ∷ xs) (b ∷ ys) x y there all one = (all.0, zip_more R xs ys x y there all.1 one)

-- nothing is told of no verdict
told_none : (claims : List Claim) (names : List (Option (List ℕ))) → told claims names [] ≡ []
told_none [] names = refl
told_none (c ∷ claims) names = refl

-- one verdict more is told
told_snoc : (claims : List Claim) (names : List (Option (List ℕ))) (verdicts : List Verdict) (claim : Claim) (v : Verdict) → slice_get claims (length verdicts) ≡ Some claim → told claims names (verdicts ++ v ∷ []) ≡ told claims names verdicts ++ told_there names (length verdicts) claim v ∷ []
told_snoc [] names verdicts claim v there = absurd cc
told_snoc (c ∷ claims) [] [] claim v there =
    let same : c ≡ claim = cc in ap₂ (λ (x : Claim) (rest : List Told). told_there [] 0 x v ∷ rest) same (told_none claims [])
told_snoc (c ∷ claims) (name ∷ names) [] claim v there =
    let same : c ≡ claim = cc in ap₂ (λ (x : Claim) (rest : List Told). told_there (name ∷ names) 0 x v ∷ rest) same (told_none claims names)
told_snoc (c ∷ claims) [] (w ∷ verdicts) claim v there =
    ap (λ (rest : List Told). told_there [] 0 c w ∷ rest) (told_snoc claims [] verdicts claim v there)
told_snoc (c ∷ claims) (name ∷ names) (w ∷ verdicts) claim v there =
    ap (λ (rest : List Told). told_there (name ∷ names) 0 c w ∷ rest) (told_snoc claims names verdicts claim v there)

-- as much is told as there are verdicts, where there is a claim for each
told_length : (claims : List Claim) (names : List (Option (List ℕ))) (verdicts : List Verdict) → length verdicts ≤ length claims → length (told claims names verdicts) ≡ length verdicts
told_length [] names [] le = refl
told_length [] names (v ∷ verdicts) le = absurd (omega (arith, le))
told_length (c ∷ claims) names [] le = refl
told_length (c ∷ claims) [] (v ∷ verdicts) le = ap suc (told_length claims [] verdicts (omega (arith, le)))
told_length (c ∷ claims) (name ∷ names) (v ∷ verdicts) le = ap suc (told_length claims names verdicts (omega (arith, le)))

-- one text more behind the others
texts_snoc : (entries : List Entry) (entry : Entry) → flat_map entry_text (entries ++ entry ∷ []) ≡ flat_map entry_text entries ++ entry_text entry
texts_snoc entries entry =
    flat_map-append entry_text entries (entry ∷ []) ∙ ap (λ z. flat_map entry_text entries ++ z) (append-nil (entry_text entry))

module _ (rules : RuleSet) (depth runs : ℕ) (graph : Named) (claims : List Claim) (names : List (Option (List ℕ))) where
  -- nothing is told at first
  pub first_none : AreFirst rules depth runs graph claims names [] []
  first_none = record {
    true_of = tt;
    within = All-nil (KeepsTo depth runs);
    entries = [];
    are_entries = subst (λ (z : List Told). AreNumbered (IsEntry graph.names) 1 z []) (sym (told_none claims names)) tt;
    says = refl;
  }

  pub first_more : (verdicts : List Verdict) (text : List ℕ) (claim : Claim) (v : Verdict) (entry : Entry) → slice_get claims (length verdicts) ≡ Some claim → IsVerdict rules graph.graph claim v → KeepsTo depth runs v → IsEntry graph.names (length verdicts + 1) (told_there names (length verdicts) claim v) entry → AreFirst rules depth runs graph claims names verdicts text → AreFirst rules depth runs graph claims names (verdicts ++ v ∷ []) (text ++ entry_text entry)
  first_more verdicts text claim v entry there is within is_entry first =
      let lt = slice_get_within claims (length verdicts) claim there in
      let long = told_length claims names verdicts (omega (arith, lt)) in
      record {
        true_of = zip_more (IsVerdict rules graph.graph) claims verdicts claim v there first.true_of is;
        within = All-append (KeepsTo depth runs) verdicts (v ∷ []) first.within (All-cons (KeepsTo depth runs) v [] within (All-nil (KeepsTo depth runs)));
        entries = first.entries ++ entry ∷ [];
        are_entries = subst (λ (z : List Told). AreNumbered (IsEntry graph.names) 1 z (first.entries ++ entry ∷ [])) (sym (told_snoc claims names verdicts claim v there))
            (numbered_snoc (IsEntry graph.names) 1 (length verdicts + 1) (told claims names verdicts) first.entries (told_there names (length verdicts) claim v) entry (omega (arith, long)) first.are_entries is_entry);
        says = ap (λ (z : List ℕ). z ++ entry_text entry) first.says ∙ sym (texts_snoc first.entries entry);
      }

  -- there is a verdict on each claim
  pub all_true : (verdicts : List Verdict) (text : List ℕ) → length verdicts ≡ length claims → AreFirst rules depth runs graph claims names verdicts text → AllZip (IsVerdict rules graph.graph) claims verdicts
  all_true verdicts text same first =
      subst (λ (z : List Claim). AllZip (IsVerdict rules graph.graph) z verdicts) (take_all (length verdicts) claims (omega (arith, same))) first.true_of

-- behind the lines for the first claims, those for the next one tell it
pub text_next : (asked : Asked) (place : ℕ) (v : Verdict) (claim : Claim) (entry : Entry) → slice_get asked.claims.now place ≡ Some claim → IsOneOf asked place v → IsEntry asked.graph.now.names (place + 1) (told_there (names_of asked) place claim v) entry
    → IsNext (TellsFirst asked) place v (entry_text entry)
text_next asked place v claim entry there one is_entry values before at first =
    let graph = asked.graph.now in
    let names = names_of asked in
    first_more asked.searched.rules asked.searched.depth asked.searched.runs graph asked.claims.now names values before claim v entry
    (subst (λ (n : ℕ). slice_get asked.claims.now n ≡ Some claim) (sym at) there)
    (one.true_of claim there) one.kept
    (subst (λ (n : ℕ). IsEntry graph.names (n + 1) (told_there names n claim v) entry) (sym at) is_entry)
    first
