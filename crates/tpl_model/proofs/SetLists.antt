-- Lists in ascending order, as sets of their members.
use Rattle.std.proofs.Common.{◌≡◌, ℕ, zero, suc, ◌+◌, ◌<◌, ◌≤◌, Bool, true, false, List, [], ◌∷◌, nat_eq, refl, sym, ap, ◌∙◌, subst, inl, inr, arith, eq-eqb}
use Rattle.std.specs.Prelude.{if◌then◌else◌}
use Rattle.std.proofs.lemmas.Bool.{eqb-true, cases_eq, or_cases, or_left, or_right}
use Rattle.tpl_model.proofs.MemberLemmas.{mem_here}
use Rattle.tpl_model.proofs.Truths.{same_tests}
use Rattle.tpl_model.specs.Members.{mem}
use Rattle.tpl_model.specs.TaskSet.{AscendsWithin, SetsAreTheirMembers, passing_from}

pub mem_within : (low high : ℕ) (xs : List ℕ) (x : ℕ) → AscendsWithin low high xs → mem x xs ≡ true → (low ≤ x) × (x < high)
mem_within low high [] x a m = cc
mem_within low high (y ∷ ys) x a m =
    let above = a.0 in
    let below = a.1 in
    elim (or_cases (nat_eq x y) (mem x ys) m) [
      | inl e ↦ let same : x ≡ y = eqb-true x y e in (omega arith, omega arith)
      | inr k ↦ let later = mem_within (suc y) high ys x a.2 k in let up = later.0 in (omega arith, later.1)
    ]

-- another lower bound of the members
pub raised : (low new high : ℕ) (xs : List ℕ) → AscendsWithin low high xs → ((x : ℕ) → mem x xs ≡ true → new ≤ x) → AscendsWithin new high xs
raised low new high [] a h = tt
raised low new high (x ∷ xs) a h = (h x (mem_here x xs), a.1, a.2)

-- ascending lists with the same members are equal
pub same_members : (low high : ℕ) (xs ys : List ℕ) → AscendsWithin low high xs → AscendsWithin low high ys → ((x : ℕ) → mem x xs ≡ mem x ys) → xs ≡ ys
same_members low high [] [] a b m = refl
same_members low high [] (y ∷ ys) a b m = let e = m y ∙ mem_here y ys in cc
same_members low high (x ∷ xs) [] a b m = let e = sym (m x) ∙ mem_here x xs in cc
same_members low high (x ∷ xs) (y ∷ ys) a b m =
    let same : x ≡ y = first in
    ap (λ l. x ∷ l) (same_members (suc x) high xs ys a.2 (subst (λ z. AscendsWithin (suc z) high ys) (sym same) b.2) (λ z. same_tests (mem z xs) (mem z ys) (to same z) (of same z)))
    ∙ ap (λ z. z ∷ ys) same
  where
    first : x ≡ y
    first =
        let le = (mem_within y high (y ∷ ys) x (omega arith, b.1, b.2) (sym (m x) ∙ mem_here x xs)).0 in
        let ge = (mem_within x high (x ∷ xs) y (omega arith, a.1, a.2) (m y ∙ mem_here y ys)).0 in
        omega arith

    to : x ≡ y → (z : ℕ) → mem z xs ≡ true → mem z ys ≡ true
    to same z k =
        let up = (mem_within (suc x) high xs z a.2 k).0 in
        elim (or_cases (nat_eq z y) (mem z ys) (sym (m z) ∙ or_right (nat_eq z x) (mem z xs) k)) [
          | inl e ↦ let here : z ≡ y = eqb-true z y e in absurd (omega arith)
          | inr later ↦ later
        ]

    of : x ≡ y → (z : ℕ) → mem z ys ≡ true → mem z xs ≡ true
    of same z k =
        let up = (mem_within (suc y) high ys z b.2 k).0 in
        elim (or_cases (nat_eq z x) (mem z xs) (m z ∙ or_right (nat_eq z y) (mem z ys) k)) [
          | inl e ↦ let here : z ≡ x = eqb-true z x e in absurd (omega arith)
          | inr later ↦ later
        ]

pub sets_lem : SetsAreTheirMembers
sets_lem = λ xs ys a b m. same_members 0 1024 xs ys a b m

pub mem-passing_from : (test : ℕ → Bool) (low n x : ℕ) → mem x (passing_from test low n) ≡ true → test x ≡ true
mem-passing_from test low zero x m = cc
mem-passing_from test low (suc n) x m = go (test low) refl m (mem-passing_from test (suc low) n x)
  where
    go : (b : Bool) → test low ≡ b → mem x (if b then (low ∷ passing_from test (suc low) n) else passing_from test (suc low) n) ≡ true → (mem x (passing_from test (suc low) n) ≡ true → test x ≡ true) → test x ≡ true
    go true e k later =
        elim (or_cases (nat_eq x low) (mem x (passing_from test (suc low) n)) k) [
          | inl s ↦ ap test (eqb-true x low s) ∙ e
          | inr m ↦ later m
        ]
    go false e k later = later k

pub passing_from-mem : (test : ℕ → Bool) (low n x : ℕ) → low ≤ x → x < low + n → test x ≡ true → mem x (passing_from test low n) ≡ true
passing_from-mem test low zero x le lt h = absurd (omega arith)
passing_from-mem test low (suc n) x le lt h = go (test low) refl (λ up. passing_from-mem test (suc low) n x (omega arith) (omega arith) h)
  where
    go : (b : Bool) → test low ≡ b → (low < x → mem x (passing_from test (suc low) n) ≡ true) → mem x (if b then (low ∷ passing_from test (suc low) n) else passing_from test (suc low) n) ≡ true
    go true e later =
        elim (cases_eq x low) [
          | inl s ↦ or_left (nat_eq x low) (mem x (passing_from test (suc low) n)) (eq-eqb x low s)
          | inr ne ↦ or_right (nat_eq x low) (mem x (passing_from test (suc low) n)) (later (omega arith))
        ]
    go false e later =
        elim (cases_eq x low) [
          | inl s ↦ let t = ap test s in cc
          | inr ne ↦ later (omega arith)
        ]

pub passing_from-ascends : (test : ℕ → Bool) (low n high : ℕ) → low + n ≤ high → AscendsWithin low high (passing_from test low n)
passing_from-ascends test low zero high le = tt
passing_from-ascends test low (suc n) high le = go (test low) (passing_from-ascends test (suc low) n high (omega arith))
  where
    go : (b : Bool) → AscendsWithin (suc low) high (passing_from test (suc low) n) → AscendsWithin low high (if b then (low ∷ passing_from test (suc low) n) else passing_from test (suc low) n)
    go true rest = (omega arith, omega arith, rest)
    go false rest = raised (suc low) low high (passing_from test (suc low) n) rest (λ x m. let up = (mem_within (suc low) high (passing_from test (suc low) n) x rest m).0 in omega arith)
