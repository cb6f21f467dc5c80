-- Verdicts by their places.
use Rattle.std.proofs.Common.{◌≡◌, ℕ, zero, suc, ◌<◌, Option, Some, None, List, [], ◌∷◌, length, map, refl, ap, arith}
use Rattle.std.specs.Prelude.{slice_get, slice_index_or}
use Rattle.std.specs.List.{All, AllZip}
use Rattle.std.proofs.lemmas.Option.{slice_get-get_or}
use Rattle.tpl_model.specs.declared.rule_set.RuleSet.{RuleSet}
use Rattle.tpl_model.specs.Graph.{TaskGraph}
use Rattle.tpl_model.specs.Claims.{Claim}
use Rattle.tpl_verify.specs.declared.verdict.Verdict.{Verdict}
use Rattle.tpl_verify.specs.Verdicts.{IsVerdict, KeepsTo}
use Rattle.tpl_verify.specs.Beside.{IsVerdictAt}

-- the verdicts at all places are those on all claims
pub zip_places : (rules : RuleSet) (g : TaskGraph) (claims : List Claim) (verdicts : List Verdict) → length verdicts ≡ length claims → ((i : ℕ) (verdict : Verdict) → slice_get verdicts i ≡ Some verdict → IsVerdictAt rules g claims i verdict) → AllZip (IsVerdict rules g) claims verdicts
zip_places rules g [] [] len each = tt
zip_places rules g [] (v ∷ verdicts) len each = absurd (omega arith)
zip_places rules g (claim ∷ claims) [] len each = absurd (omega arith)
zip_places rules g (claim ∷ claims) (v ∷ verdicts) len each = (
  each 0 v refl claim refl,
  zip_places rules g claims verdicts (omega arith) (λ i verdict e. each (suc i) verdict e),
)

-- the verdict at each place keeps to these limits
pub within_places : (depth runs : ℕ) (verdicts : List Verdict) → ((i : ℕ) (verdict : Verdict) → slice_get verdicts i ≡ Some verdict → KeepsTo depth runs verdict) → All (KeepsTo depth runs) verdicts
within_places depth runs verdicts each i other lt =
    each i (slice_index_or verdicts i other) (slice_get-get_or verdicts i other lt)

pub same_length : (verdicts : List Verdict) (places : List (Option Verdict)) → places ≡ map (λ v. Some v) verdicts → length places ≡ length verdicts
same_length [] [] e = refl
same_length [] (p ∷ places) e = absurd (cc)
same_length (v ∷ verdicts) [] e = absurd (cc)
same_length (v ∷ verdicts) (p ∷ places) e =
    let whole : p ∷ places ≡ Some v ∷ map (λ w. Some w) verdicts = e in
    let rest : places ≡ map (λ w. Some w) verdicts = cc in ap suc (same_length verdicts places rest)

-- the verdict at a place, where each place has one
pub at_place : (verdicts : List Verdict) (places : List (Option Verdict)) (i : ℕ) (verdict : Verdict) → places ≡ map (λ v. Some v) verdicts → slice_get verdicts i ≡ Some verdict → (i < length places) × (slice_index_or places i None ≡ Some verdict)
at_place [] places i verdict e there = absurd (cc)
at_place (v ∷ verdicts) [] i verdict e there = absurd (cc)
at_place (v ∷ verdicts) (p ∷ places) zero verdict e there =
    let whole : p ∷ places ≡ Some v ∷ map (λ w. Some w) verdicts = e in
    let same : Some v ≡ Some verdict = there in
    let first : p ≡ Some verdict = cc in
    (omega arith, first)
at_place (v ∷ verdicts) (p ∷ places) (suc i) verdict e there =
    let whole : p ∷ places ≡ Some v ∷ map (λ w. Some w) verdicts = e in
    let rest : places ≡ map (λ w. Some w) verdicts = cc in
    let more = at_place verdicts places i verdict rest there in
    (let lt = more.0 in omega arith, more.1)

-- what is at a place, where it can only be this
pub only_there : (verdicts : List Verdict) (i : ℕ) (it : Verdict) → i < length verdicts → ((v : Verdict) → slice_get verdicts i ≡ Some v → v ≡ it) → slice_get verdicts i ≡ Some it
only_there [] i it lt is = absurd (omega arith)
only_there (v ∷ verdicts) zero it lt is = ap Some (is v refl)
only_there (v ∷ verdicts) (suc i) it lt is = only_there verdicts i it (omega arith) is
