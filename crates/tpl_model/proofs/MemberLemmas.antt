-- Equal numbers, and members of lists.
use Rattle.std.proofs.Common.{◌≡◌, ◌≢◌, ◌⊎◌, inl, inr, ℕ, Bool, true, false, ◌||◌, ◌++◌, List, [], ◌∷◌, nat_eq, refl, sym, subst, eq-eqb}
use Rattle.std.proofs.lemmas.Bool.{eqb-true}
use Rattle.tpl_model.proofs.Truths.{same_tests}
use Rattle.tpl_model.specs.Members.{mem}

pub same_self : (x : ℕ) → nat_eq x x ≡ true
same_self x = eq-eqb x x refl

pub not_same : (x y : ℕ) → x ≢ y → nat_eq x y ≡ false
not_same x y ne = go (nat_eq x y) refl
  where
    go : (b : Bool) → nat_eq x y ≡ b → b ≡ false
    go true e = absurd (ne (eqb-true x y e))
    go false e = refl

pub other_number : (x y : ℕ) → y ≢ x → nat_eq x y ≡ false
other_number x y ne = not_same x y (λ e. ne (sym e))

pub same_either_way : (x y : ℕ) → nat_eq x y ≡ nat_eq y x
same_either_way x y = same_tests (nat_eq x y) (nat_eq y x) (λ e. eq-eqb y x (sym (eqb-true x y e))) (λ e. eq-eqb x y (sym (eqb-true y x e)))

pub mem_here : (x : ℕ) (xs : List ℕ) → mem x (x ∷ xs) ≡ true
mem_here x xs = subst (λ b. (b || mem x xs) ≡ true) (sym (same_self x)) refl

pub mem_there : (x y : ℕ) (xs : List ℕ) → mem x xs ≡ true → mem x (y ∷ xs) ≡ true
mem_there x y xs e = go (nat_eq x y)
  where
    go : (b : Bool) → (b || mem x xs) ≡ true
    go true = refl
    go false = e

pub mem_split : (x y : ℕ) (xs : List ℕ) → mem x (y ∷ xs) ≡ true → (x ≡ y) ⊎ (mem x xs ≡ true)
mem_split x y xs e = go (nat_eq x y) refl
  where
    go : (b : Bool) → nat_eq x y ≡ b → (x ≡ y) ⊎ (mem x xs ≡ true)
    go true q = inl (eqb-true x y q)
    go false q = inr (subst (λ b. (b || mem x xs) ≡ true) q e)

pub mem_append : (x : ℕ) (xs ys : List ℕ) → mem x (xs ++ ys) ≡ true → (mem x xs ≡ true) ⊎ (mem x ys ≡ true)
mem_append x [] ys e = inr e
mem_append x (y ∷ xs) ys e = elim (mem_split x y (xs ++ ys) e) [
  | inl q ↦ inl (subst (λ z. mem z (y ∷ xs) ≡ true) (sym q) (mem_here y xs))
  | inr q ↦ elim (mem_append x xs ys q) [ inl p ↦ inl (mem_there x y xs p) | inr p ↦ inr p ]
]

pub mem_left : (x : ℕ) (xs ys : List ℕ) → mem x xs ≡ true → mem x (xs ++ ys) ≡ true
mem_left x [] ys e = absurd (cc)
mem_left x (y ∷ xs) ys e = elim (mem_split x y xs e) [
  | inl q ↦ subst (λ z. mem z (y ∷ (xs ++ ys)) ≡ true) (sym q) (mem_here y (xs ++ ys))
  | inr q ↦ mem_there x y (xs ++ ys) (mem_left x xs ys q)
]

pub mem_right : (x : ℕ) (xs ys : List ℕ) → mem x ys ≡ true → mem x (xs ++ ys) ≡ true
mem_right x [] ys e = e
mem_right x (y ∷ xs) ys e = mem_there x y (xs ++ ys) (mem_right x xs ys e)
