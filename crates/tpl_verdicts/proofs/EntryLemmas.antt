-- What is said of one claim after another.
use Rattle.std.proofs.Common.{◌≡◌, ◌∙◌, ℕ, zero, suc, ◌+◌, ◌<◌, ◌≤◌, ◌++◌, Option, Some, None, List, [], ◌∷◌, length, take, ap, ap₂, subst, sym, refl, arith}
use Rattle.std.specs.Prelude.{slice_get, slice_index_or}
use Rattle.std.specs.List.{All, AllZip, flat_map}
use Rattle.std.proofs.lemmas.List.{flat_map_more, take_all, take_more, length-take-le}
use Rattle.std.proofs.lemmas.Option.{get_or_from_slice_get, slice_get_within}
use Rattle.tpl_model.specs.Graph.{TaskGraph}
use Rattle.tpl_model.specs.Claims.{Claim}
use Rattle.tpl_model.specs.declared.rule_set.RuleSet.{RuleSet}
use Rattle.tpl_graph.specs.Fits.{Fits}
use Rattle.tpl_verify.specs.declared.verdict.Verdict.{Verdict}
use Rattle.tpl_verify.specs.Verdicts.{IsVerdict}
use Rattle.tpl_verdicts.specs.Lines.{AreNumbered}
use Rattle.tpl_verdicts.specs.Told.{Told, told}

-- one thing more
pub numbered_snoc : {A B : Type 0} (R : ℕ → A → B → Type 0) (n m : ℕ) (xs : List A) (ys : List B) (x : A) (y : B) → m ≡ n + length xs → AreNumbered R n xs ys → R m x y → AreNumbered R n (xs ++ x ∷ []) (ys ++ y ∷ [])
numbered_snoc R n m [] [] x y e all one = (subst (λ (k : ℕ). R k x y) (let s : m ≡ n = omega (arith, e) in s) one, tt)
numbered_snoc R n m [] (b ∷ ys) x y e all one = absurd all
numbered_snoc R n m (a ∷ xs) [] x y e all one = absurd all
numbered_snoc R n m (a ∷ xs) (b ∷ ys) x y e all one = (all.0, numbered_snoc R (suc n) m xs ys x y (omega (arith, e)) all.1 one)

-- what is said of the thing at the next place
pub numbered_more : {A B : Type 0} (R : ℕ → A → B → Type 0) (xs : List A) (ys more : List B) (i : ℕ) (x : A) (y : B) → slice_get xs i ≡ Some x → AreNumbered R 1 (take i xs) ys → R (i + 1) x y → more ≡ ys ++ y ∷ [] → AreNumbered R 1 (take (i + 1) xs) more
numbered_more {A} {B} R xs ys more i x y is so_far one pushed =
    let lt = slice_get_within xs i x is in
    let len = length-take-le i xs (omega (arith, lt)) in
    let one_more : take (i + 1) xs ≡ take i xs ++ x ∷ [] = take_more xs i x lt ∙ ap (λ (z : A). take i xs ++ z ∷ []) (get_or_from_slice_get xs i x x is) in
    subst (λ (z : List B). AreNumbered R 1 (take (i + 1) xs) z) (sym pushed)
    (subst (λ (z : List A). AreNumbered R 1 z (ys ++ y ∷ [])) (sym one_more)
    (numbered_snoc R 1 (i + 1) (take i xs) ys x y (omega (arith, len)) so_far one))

-- all things
pub numbered_all : {A B : Type 0} (R : ℕ → A → B → Type 0) (xs : List A) (ys : List B) (i : ℕ) → length xs ≤ i → AreNumbered R 1 (take i xs) ys → AreNumbered R 1 xs ys
numbered_all {A} R xs ys i le all = subst (λ (z : List A). AreNumbered R 1 z ys) (take_all i xs le) all

-- a claim with its name and the verdict on it
abbrev told_one : Claim → Option (List ℕ) → Verdict → Told
told_one claim name v = record { claim = claim; name = name; verdict = v }

-- what is told of the claim at a place
pub told_at : (claims : List Claim) (names : List (Option (List ℕ))) (verdicts : List Verdict) (i : ℕ) (claim : Claim) (v : Verdict) → slice_get claims i ≡ Some claim → slice_get verdicts i ≡ Some v → slice_get (told claims names verdicts) i ≡ Some (record { claim = claim; name = slice_index_or names i None; verdict = v })
told_at [] names verdicts i claim v e f = absurd cc
told_at (c ∷ claims) names [] i claim v e f = absurd cc
told_at (c ∷ claims) [] (w ∷ verdicts) zero claim v e f =
    let same : c ≡ claim = cc in let other : w ≡ v = cc in
    ap₂ (λ (x : Claim) (y : Verdict). Some (told_one x None y)) same other
told_at (c ∷ claims) [] (w ∷ verdicts) (suc i) claim v e f = told_at claims [] verdicts i claim v e f
told_at (c ∷ claims) (name ∷ names) (w ∷ verdicts) zero claim v e f =
    let same : c ≡ claim = cc in let other : w ≡ v = cc in
    ap₂ (λ (x : Claim) (y : Verdict). Some (told_one x name y)) same other
told_at (c ∷ claims) (name ∷ names) (w ∷ verdicts) (suc i) claim v e f = told_at claims names verdicts i claim v e f

-- no more is told than there are verdicts
pub told_short : (claims : List Claim) (names : List (Option (List ℕ))) (verdicts : List Verdict) → length (told claims names verdicts) ≤ length verdicts
told_short [] names verdicts = omega arith
told_short (c ∷ claims) names [] = omega arith
told_short (c ∷ claims) [] (v ∷ verdicts) = let rest = told_short claims [] verdicts in omega (arith, rest)
told_short (c ∷ claims) (name ∷ names) (v ∷ verdicts) = let rest = told_short claims names verdicts in omega (arith, rest)

-- lists that go together are equally long
pub zip_length : {X Y : Type 0} (R : X → Y → Type 0) (xs : List X) (ys : List Y) → AllZip R xs ys → length xs ≡ length ys
zip_length R [] [] all = refl
zip_length R [] (y ∷ ys) all = absurd all
zip_length R (x ∷ xs) [] all = absurd all
zip_length R (x ∷ xs) (y ∷ ys) all = let rest = zip_length R xs ys all.1 in omega (arith, rest)

-- what stands at one place goes together
pub zip_at : {X Y : Type 0} (R : X → Y → Type 0) (xs : List X) (ys : List Y) (i : ℕ) (x : X) (y : Y) → i < length ys → x ≡ slice_index_or xs i x → y ≡ slice_index_or ys i y → AllZip R xs ys → R x y
zip_at R [] [] i x y lt e f all = absurd (omega (arith, lt))
zip_at R [] (b ∷ ys) i x y lt e f all = absurd all
zip_at R (a ∷ xs) [] i x y lt e f all = absurd all
zip_at {X} {Y} R (a ∷ xs) (b ∷ ys) zero x y lt e f all =
    subst (λ (z : X). R z y) (sym e) (subst (λ (z : Y). R a z) (sym f) all.0)
zip_at R (a ∷ xs) (b ∷ ys) (suc i) x y lt e f all = zip_at R xs ys i x y (omega (arith, lt)) e f all.1

-- what is said of each claim holds of the one at a place
pub all_at : {X : Type 0} (P : X → Type 0) (xs : List X) (i : ℕ) (x : X) → i < length xs → x ≡ slice_index_or xs i x → All P xs → P x
all_at {X} P xs i x lt is all = subst (λ (y : X). P y) (sym is) (all i x lt)

-- a claim and the verdict on it
module _ (rules : RuleSet) (graph : TaskGraph) (claims : List Claim) (verdicts : List Verdict) (are : AllZip (IsVerdict rules graph) claims verdicts) (at : ℕ) (lt : at < length verdicts) where
  pub has_claim : at < length claims
  has_claim = let same = zip_length (IsVerdict rules graph) claims verdicts are in omega (arith, same, lt)

  pub claim_fits : (claim : Claim) → claim ≡ slice_index_or claims at claim → All (Fits graph) claims → Fits graph claim
  claim_fits claim is fits = all_at (Fits graph) claims at claim has_claim is fits

  pub verdict_at : (claim : Claim) (verdict : Verdict) → claim ≡ slice_index_or claims at claim → verdict ≡ slice_index_or verdicts at verdict → IsVerdict rules graph claim verdict
  verdict_at claim verdict is_claim is_verdict = zip_at (IsVerdict rules graph) claims verdicts at claim verdict lt is_claim is_verdict are

-- one text more behind those of the first things
pub text_more : {X : Type 0} (f : X → List ℕ) (xs : List X) (i : ℕ) (x : X) (start old new : List ℕ) → i < length xs → x ≡ slice_index_or xs i x → old ≡ start ++ flat_map f (take i xs) → new ≡ old ++ f x → new ≡ start ++ flat_map f (take (i + 1) xs)
text_more {X} f xs i x start old new lt is so_far more =
    more
    ∙ (ap (λ z. z ++ f x) so_far
    ∙ (flat_map_more f start (take i xs) x
    ∙ (ap (λ (y : X). start ++ flat_map f (take i xs ++ y ∷ [])) is
    ∙ ap (λ z. start ++ flat_map f z) (sym (take_more xs i x lt)))))
