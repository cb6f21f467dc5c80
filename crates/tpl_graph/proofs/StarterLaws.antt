-- Who starts a task.
use Rattle.std.proofs.Common.{◌≡◌, ℕ, zero, suc, ◌+◌, ◌<◌, ◌≤◌, Bool, true, false, ◌||◌, ◌++◌, List, [], ◌∷◌, length, get_or, nat_eq, refl, sym, ap, ◌∙◌, arith, length-append, ⊎_elim}
use Rattle.std.specs.Prelude.{cond, count_by, if◌then◌else◌}
use Rattle.std.proofs.lemmas.Bool.{eqb-true, eq-eqb, ltb-true, or_cases}
use Rattle.std.proofs.lemmas.List.Sums.{sum_by-cons}
use Rattle.tpl_model.proofs.Truths.{or_true}
use Rattle.tpl_model.specs.Members.{mem}
use Rattle.tpl_draft.specs.Refusals.{starters_in, starters_from, is_one_before}

abbrev one_if : Bool → ℕ
one_if b = cond b 1 0

mem-append : (x : ℕ) (xs ys : List ℕ) → mem x (xs ++ ys) ≡ (mem x xs || mem x ys)
mem-append x [] ys = refl
mem-append x (y ∷ xs) ys = by (mem-append x xs ys) (nat_eq x y)
  where
    by : mem x (xs ++ ys) ≡ (mem x xs || mem x ys) → (b : Bool) → (b || mem x (xs ++ ys)) ≡ ((b || mem x xs) || mem x ys)
    by more true = refl
    by more false = more

here : (c p : ℕ) (xs : List ℕ) → mem c xs ≡ true → mem p (starters_in c p xs) ≡ true
here c p [] e = absurd (cc)
here c p (s ∷ xs) e = by (here c p xs) (nat_eq c s) refl
  where
    by : (mem c xs ≡ true → mem p (starters_in c p xs) ≡ true) → (b : Bool) → nat_eq c s ≡ b → mem p (starters_in c p (s ∷ xs)) ≡ true
    by more true is =
        ap (λ b. mem p (if b then p ∷ starters_in c p xs else starters_in c p xs)) is
        ∙ ap (λ b. b || mem p (starters_in c p xs)) (eq-eqb p p refl)
    by more false is =
        ap (λ b. mem p (if b then p ∷ starters_in c p xs else starters_in c p xs)) is
        ∙ more (sym (ap (λ b. b || mem c xs) is) ∙ e)

there : (c p q : ℕ) (xs : List ℕ) → mem q (starters_in c p xs) ≡ true → (q ≡ p) × (mem c xs ≡ true)
there c p q [] e = absurd (cc)
there c p q (s ∷ xs) e = by (there c p q xs) (nat_eq c s) refl
  where
    by : (mem q (starters_in c p xs) ≡ true → (q ≡ p) × (mem c xs ≡ true)) → (b : Bool) → nat_eq c s ≡ b → (q ≡ p) × (mem c (s ∷ xs) ≡ true)
    by more true is = ⊎_elim
        (λ same. (eqb-true q p same, ap (λ b. b || mem c xs) is))
        (λ rest. let r = more rest in (r.0, ap (λ b. nat_eq c s || b) r.1 ∙ or_true (nat_eq c s)))
        (or_cases (nat_eq q p) (mem q (starters_in c p xs)) (sym (ap (λ b. mem q (if b then p ∷ starters_in c p xs else starters_in c p xs)) is) ∙ e))
    by more false is =
        let r = more (sym (ap (λ b. mem q (if b then p ∷ starters_in c p xs else starters_in c p xs)) is) ∙ e) in
        (r.0, ap (λ b. nat_eq c s || b) r.1 ∙ or_true (nat_eq c s))

-- a task whose body starts c is one of its starters
pub is_starter : (c q p : ℕ) (lists : List (List ℕ)) → mem c (get_or lists p []) ≡ true → mem (q + p) (starters_from c q lists) ≡ true
is_starter c q p [] e = absurd (cc)
is_starter c q zero (l ∷ lists) e =
    mem-append (q + 0) (starters_in c q l) (starters_from c (suc q) lists)
    ∙ (let at : q + 0 ≡ q = omega arith in
    ap (λ b. b || mem (q + 0) (starters_from c (suc q) lists)) (ap (λ k. mem k (starters_in c q l)) at ∙ here c q l e))
is_starter c q (suc p) (l ∷ lists) e =
    let at : q + suc p ≡ suc q + p = omega arith in
    mem-append (q + suc p) (starters_in c q l) (starters_from c (suc q) lists)
    ∙ (ap (λ k. mem (q + suc p) (starters_in c q l) || mem k (starters_from c (suc q) lists)) at
    ∙ (ap (λ b. mem (q + suc p) (starters_in c q l) || b) (is_starter c (suc q) p lists e) ∙ or_true (mem (q + suc p) (starters_in c q l))))

-- the body of a starter of c starts it
pub of_starter : (c q p : ℕ) (lists : List (List ℕ)) → mem p (starters_from c q lists) ≡ true → (i : ℕ) × (p ≡ q + i) × (mem c (get_or lists i []) ≡ true)
of_starter c q p [] e = absurd (cc)
of_starter c q p (l ∷ lists) e = ⊎_elim
    (λ first. let r = there c q p l first in (0, omega (arith, r.0), r.1))
    (λ rest. let r = of_starter c (suc q) p lists rest in (suc r.0, omega (arith, r.1), r.2))
    (or_cases (mem p (starters_in c q l)) (mem p (starters_from c (suc q) lists)) (sym (mem-append p (starters_in c q l) (starters_from c (suc q) lists)) ∙ e))

count_in : (c p : ℕ) (xs : List ℕ) → count_by (nat_eq c) xs ≤ length (starters_in c p xs)
count_in c p [] = omega arith
count_in c p (s ∷ xs) = by (count_in c p xs) (nat_eq c s) refl
  where
    by : count_by (nat_eq c) xs ≤ length (starters_in c p xs) → (b : Bool) → nat_eq c s ≡ b → count_by (nat_eq c) (s ∷ xs) ≤ length (starters_in c p (s ∷ xs))
    by more true is =
        let one : one_if (nat_eq c s) ≡ 1 = ap one_if is in
        let long : length (starters_in c p (s ∷ xs)) ≡ suc (length (starters_in c p xs)) = ap (λ b. length (if b then p ∷ starters_in c p xs else starters_in c p xs)) is in
        omega (arith, one, long, sum_by-cons (λ x. cond (nat_eq c x) 1 0) s xs, more)
    by more false is =
        let one : one_if (nat_eq c s) ≡ 0 = ap one_if is in
        let long : length (starters_in c p (s ∷ xs)) ≡ length (starters_in c p xs) = ap (λ b. length (if b then p ∷ starters_in c p xs else starters_in c p xs)) is in
        omega (arith, one, long, sum_by-cons (λ x. cond (nat_eq c x) 1 0) s xs, more)

pub count_starts : (c q p : ℕ) (lists : List (List ℕ)) → count_by (nat_eq c) (get_or lists p []) ≤ length (starters_from c q lists)
count_starts c q p [] = omega arith
count_starts c q zero (l ∷ lists) = omega (arith, count_in c q l, length-append (starters_in c q l) (starters_from c (suc q) lists))
count_starts c q (suc p) (l ∷ lists) = omega (arith, count_starts c (suc q) p lists, length-append (starters_in c q l) (starters_from c (suc q) lists))

pub count_none : (c : ℕ) (xs : List ℕ) → mem c xs ≡ false → count_by (nat_eq c) xs ≤ 0
count_none c [] e = omega arith
count_none c (s ∷ xs) e = by (count_none c xs) (nat_eq c s) refl
  where
    by : (mem c xs ≡ false → count_by (nat_eq c) xs ≤ 0) → (b : Bool) → nat_eq c s ≡ b → count_by (nat_eq c) (s ∷ xs) ≤ 0
    by more true is = absurd (let k : true ≡ false = sym (ap (λ b. b || mem c xs) is) ∙ e in cc)
    by more false is =
        let one : one_if (nat_eq c s) ≡ 0 = ap one_if is in
        omega (arith, one, sum_by-cons (λ x. cond (nat_eq c x) 1 0) s xs, more (sym (ap (λ b. b || mem c xs) is) ∙ e))

-- the one starter that is declared before t
pub one_starter : (t : ℕ) (ps : List ℕ) → is_one_before t ps ≡ true → (p : ℕ) × (ps ≡ p ∷ []) × (p < t)
one_starter t [] e = absurd (cc)
one_starter t (p ∷ []) e = (p, refl, ltb-true p t e)
one_starter t (p ∷ q ∷ ps) e = absurd (cc)

pub mem_one : (x p : ℕ) → mem x (p ∷ []) ≡ true → x ≡ p
mem_one x p e = ⊎_elim (λ same. eqb-true x p same) (λ no_more. absurd (cc)) (or_cases (nat_eq x p) false e)

pub one_in : (p : ℕ) → mem p (p ∷ []) ≡ true
one_in p = ap (λ b. b || false) (eq-eqb p p refl)
