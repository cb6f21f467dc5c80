-- Counting the items of a site, one item later.
use Rattle.std.proofs.Common.{◌≡◌, ℕ, suc, ◌+◌, ◌≤◌, ◌<◌, ◌∙◌, ◌⊎◌, inl, inr, zero, List, ◌∷◌, Bool, true, false, refl, ap, sym, subst, length, map, drop, arith}
use Rattle.std.specs.Prelude.{count_by, nat_eq, get_or, cond}
use Rattle.std.proofs.Math.Seq.{drop-cons}
use Rattle.std.proofs.lemmas.Bool.{eq-eqb, eqb-true}
use Rattle.std.proofs.lemmas.List.{drop_all}
use Rattle.std.proofs.lemmas.List.Sums.{sum_by-cons}

-- how many of the items from place i on are of site r
abbrev pub from : {W : Type 0} → (W → ℕ) → List W → ℕ → ℕ → ℕ
from f xs i r = count_by (nat_eq r) (map f (drop i xs))

with_first : {W : Type 0} (f : W → ℕ) (xs : List W) (i : ℕ) (x : W) (r : ℕ) → i < length xs → x ≡ get_or xs i x
    → from f xs i r ≡ count_by (nat_eq r) (f x ∷ map f (drop (i + 1) xs))
with_first f xs i x r lt at =
    let e : suc i ≡ i + 1 = omega arith in
    ap (λ l. count_by (nat_eq r) (map f l)) (drop-cons xs i x lt)
    ∙ ap (λ y. count_by (nat_eq r) (f y ∷ map f (drop (suc i) xs))) (sym at)
    ∙ ap (λ n. count_by (nat_eq r) (f x ∷ map f (drop n xs))) e

count_cons : (r y : ℕ) (b : Bool) (ys : List ℕ) → nat_eq r y ≡ b → count_by (nat_eq r) (y ∷ ys) ≡ cond b 1 0 + count_by (nat_eq r) ys
count_cons r y b ys is = sum_by-cons (λ x. cond (nat_eq r x) 1 0) y ys ∙ ap (λ (c : Bool). cond c 1 0 + count_by (nat_eq r) ys) is

count_other : (r y : ℕ) (b : Bool) (ys : List ℕ) → nat_eq r y ≡ b → (r ≡ y → ⊥) → count_by (nat_eq r) (y ∷ ys) ≡ count_by (nat_eq r) ys
count_other r y true ys is differs = absurd (differs (eqb-true r y is))
count_other r y false ys is differs = omega (arith, count_cons r y false ys is)

count_same : (r y : ℕ) (ys : List ℕ) → r ≡ y → count_by (nat_eq r) (y ∷ ys) ≡ 1 + count_by (nat_eq r) ys
count_same r y ys same = count_cons r y true ys (eq-eqb r y same)

count_least : (r y : ℕ) (b : Bool) (ys : List ℕ) → nat_eq r y ≡ b → count_by (nat_eq r) ys ≤ count_by (nat_eq r) (y ∷ ys)
count_least r y true ys is = omega (arith, count_cons r y true ys is)
count_least r y false ys is = omega (arith, count_cons r y false ys is)

-- an item of another site
pub from_other : {W : Type 0} (f : W → ℕ) (xs : List W) (i : ℕ) (x : W) (r : ℕ) → i < length xs → x ≡ get_or xs i x → (r ≡ f x → ⊥) → from f xs i r ≡ from f xs (i + 1) r
from_other f xs i x r lt at differs = with_first f xs i x r lt at ∙ count_other r (f x) (nat_eq r (f x)) (map f (drop (i + 1) xs)) refl differs

-- an item of this site
pub from_same : {W : Type 0} (f : W → ℕ) (xs : List W) (i : ℕ) (x : W) (r : ℕ) → i < length xs → x ≡ get_or xs i x → r ≡ f x → from f xs i r ≡ 1 + from f xs (i + 1) r
from_same f xs i x r lt at same = with_first f xs i x r lt at ∙ count_same r (f x) (map f (drop (i + 1) xs)) same

-- there are no more further on
pub from_less : {W : Type 0} (f : W → ℕ) (xs : List W) (i : ℕ) (x : W) (r : ℕ) → i < length xs → x ≡ get_or xs i x → from f xs (i + 1) r ≤ from f xs i r
from_less f xs i x r lt at = omega (arith, with_first f xs i x r lt at, count_least r (f x) (nat_eq r (f x)) (map f (drop (i + 1) xs)) refl)

-- the lower number is below, or the same
pub lower_or_same : (a b : ℕ) → a ≤ b → (a < b) ⊎ (a ≡ b)
lower_or_same zero zero le = inr refl
lower_or_same zero (suc b) le = inl (omega arith)
lower_or_same (suc a) zero le = absurd (omega arith)
lower_or_same (suc a) (suc b) le = elim (lower_or_same a b (omega arith)) [ inl x ↦ inl (omega arith) | inr x ↦ inr (ap suc x) ]

-- what was found so far is of the items
pub found_more : {W : Type 0} (f : W → ℕ) (xs : List W) (i : ℕ) (x : W) (sites least least' : ℕ) → i < length xs → x ≡ get_or xs i x
    → (least < 65536 → (sites ≤ least) × (0 < count_by (nat_eq least) (map f xs))) → ((r : ℕ) → from f xs i r ≤ count_by (nat_eq r) (map f xs))
    → (least' < least → (least' ≡ f x) × (sites ≤ f x)) → (least' < least) ⊎ (least' ≡ least)
    → least' < 65536 → (sites ≤ least') × (0 < count_by (nat_eq least') (map f xs))
found_more f xs i x sites least least' lt at was fewer new (inl below) low =
    (omega (arith, new below), omega (arith, fewer least', from_same f xs i x least' lt at (new below).0))
found_more f xs i x sites least least' lt at was fewer new (inr same) low =
    subst (λ n. (sites ≤ n) × (0 < count_by (nat_eq n) (map f xs))) (sym same) (was (omega (arith, same, low)))

-- no item is left
pub from_end : {W : Type 0} (f : W → ℕ) (xs : List W) (i r : ℕ) → length xs ≤ i → from f xs i r ≡ 0
from_end f xs i r le = ap (λ l. count_by (nat_eq r) (map f l)) (drop_all i xs le)
