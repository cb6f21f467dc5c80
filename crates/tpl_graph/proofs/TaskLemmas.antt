-- Lists of tasks with gaps, taken apart at the first place.
use Rattle.std.proofs.Common.{◌≡◌, ◌-◌, ◌≤◌, ◌↔◌, List, [], ◌∷◌, length, get_or, take, drop, Option, Some, None, sym, ap, subst, arith}
use Rattle.std.proofs.lemmas.List.{take_all}
use Rattle.tpl_model.specs.Claims.{AreAll, somes}

-- a list behind its first place
abbrev pub behind_first : {A : Type 0} → List A → List A
behind_first xs = take (length xs - 1) (drop 1 xs)

behind : {A : Type 0} (x : A) (xs : List A) → behind_first (x ∷ xs) ≡ xs
behind x xs = take_all (length (x ∷ xs) - 1) xs (omega arith)

pub behind_none : {A : Type 0} (xs : List (Option A)) → 1 ≤ length xs → get_or xs 0 None ≡ None → somes (behind_first xs) ≡ somes xs
behind_none [] long first = absurd (omega arith)
behind_none (None ∷ xs) long first = ap somes (behind None xs)
behind_none (Some x ∷ xs) long first = absurd cc

abbrev one_more : {A : Type 0} (P : A → Type 0) (x : A) (xs : List A) → AreAll P (x ∷ xs) ↔ (P x × AreAll P xs)
one_more P x [] = (λ h. (h, tt), λ h. h.0)
one_more P x (y ∷ xs) = (λ h. h, λ h. h)

some_is : {A : Type 0} (x y : A) → Some x ≡ Some y → x ≡ y
some_is x y e = cc

pub behind_some : {A : Type 0} (P : A → Type 0) (x : A) (xs : List (Option A)) → 1 ≤ length xs → get_or xs 0 None ≡ Some x → AreAll P (somes xs) ↔ (P x × AreAll P (somes (behind_first xs)))
behind_some P x [] long first = absurd (omega arith)
behind_some P x (None ∷ xs) long first = absurd cc
behind_some P x (Some y ∷ xs) long first =
    let same : x ≡ y = some_is x y (sym first) in
    subst (λ z. AreAll P (y ∷ somes xs) ↔ (P z × AreAll P (somes (behind_first (Some y ∷ xs))))) (sym same)
    (subst (λ zs. AreAll P (y ∷ somes xs) ↔ (P y × AreAll P zs)) (ap somes (sym (behind (Some y) xs))) (one_more P y (somes xs)))
