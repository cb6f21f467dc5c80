-- Tests that decide statements.
use Rattle.std.proofs.Common.{◌≡◌, ℕ, zero, suc, ◌<◌, ◌⊎◌, inl, inr, ◌&&◌, ◌||◌, not, Bool, true, false, List, [], ◌∷◌, refl, sym, subst, arith, nat_eq}
use Rattle.std.specs.Prelude.{Decides}
use Rattle.std.proofs.lemmas.Bool.{cases_lt, and_parts, and_from as and_join, or_cases as or_split, or_left, or_right}
use Rattle.tpl_model.proofs.MemberLemmas.{same_self, mem_there, mem_split}
use Rattle.tpl_model.proofs.Truths.{true_false}
use Rattle.tpl_model.specs.declared.finals.Final.{Final}
use Rattle.tpl_model.specs.declared.finals.Final.TheVariants.{RanToCompletion, Canceled, Faulted}
use Rattle.tpl_model.specs.Finals.{is_final}
use Rattle.tpl_model.specs.Members.{mem}
use Rattle.tpl_model.specs.Graph.{some_in}
use Rattle.tpl_laws.proofs.Basics.{same_number, final_same, final_self, mem_here}
use Rattle.tpl_laws.specs.RowTests.{implies, all_in, each_end, some_end, some_below}

pub denied : (P : Type 0) (b : Bool) → Decides b P → Decides (not b) (P → ⊥)
denied P true d = (λ e. true_false (sym e), λ f. absurd (f (d.0 refl)))
denied P false d = (λ e p. true_false (sym (d.1 p)), λ f. refl)

-- a test says of itself that it passes, or that it doesn't
pub itself : (b : Bool) → Decides b (b ≡ true)
itself b = (λ e. e, λ e. e)

pub opposite : (b : Bool) → Decides (not b) (b ≡ false)
opposite true = (λ e. cc, λ e. cc)
opposite false = (λ e. refl, λ e. refl)

pub same : (x y : ℕ) → Decides (nat_eq x y) (x ≡ y)
same x y = (same_number x y, λ e. subst (λ z. nat_eq x z ≡ true) e (same_self x))

pub same_end : (e f : Final) → Decides (is_final e f) (e ≡ f)
same_end e f = (final_same e f, λ q. subst (λ z. is_final e z ≡ true) q (final_self e))

pub both : (P Q : Type 0) (a b : Bool) → Decides a P → Decides b Q → Decides (a && b) (P × Q)
both P Q a b p q = (
  λ e. let s = and_parts a b e in (p.0 s.0, q.0 s.1),
  λ e. and_join a b (p.1 e.0) (q.1 e.1),
)

pub both3 : (P Q R : Type 0) (a b c : Bool) → Decides a P → Decides b Q → Decides c R → Decides (a && (b && c)) (P × Q × R)
both3 P Q R a b c p q r = (
  λ e. let x = and_parts a (b && c) e in let y = and_parts b c x.1 in (p.0 x.0, q.0 y.0, r.0 y.1),
  λ d. and_join a (b && c) (p.1 d.0) (and_join b c (q.1 d.1) (r.1 d.2)),
)

pub both4 : (P Q R S : Type 0) (a b c d : Bool) → Decides a P → Decides b Q → Decides c R → Decides d S → Decides (a && (b && (c && d))) (P × Q × R × S)
both4 P Q R S a b c d p q r s = (
  λ e. let x = and_parts a (b && (c && d)) e in let y = (both3 Q R S b c d q r s).0 x.1 in (p.0 x.0, y.0, y.1, y.2),
  λ e. and_join a (b && (c && d)) (p.1 e.0) ((both3 Q R S b c d q r s).1 (e.1, e.2, e.3)),
)

pub either : (P Q : Type 0) (a b : Bool) → Decides a P → Decides b Q → Decides (a || b) (P ⊎ Q)
either P Q a b p q = (
  λ e. elim (or_split a b e) [ inl x ↦ inl (p.0 x) | inr y ↦ inr (q.0 y) ],
  λ e. elim e [ inl x ↦ or_left a b (p.1 x) | inr y ↦ or_right a b (q.1 y) ],
)

pub only_if : (P Q : Type 0) (a b : Bool) → Decides a P → Decides b Q → Decides (implies a b) (P → Q)
only_if P Q true b p q = (λ e x. q.0 e, λ f. q.1 (f (p.0 refl)))
only_if P Q false b p q = (λ e x. true_false (sym (p.1 x)), λ f. refl)

-- the statement in other words
pub means : (P Q : Type 0) (b : Bool) → Decides b P → (P → Q) → (Q → P) → Decides b Q
means P Q b d to back = (λ e. to (d.0 e), λ q. d.1 (back q))

-- of the three ends
by_end : (P : Final → Type 0) → P RanToCompletion → P Canceled → P Faulted → (f : Final) → P f
by_end P a b c RanToCompletion = a
by_end P a b c Canceled = b
by_end P a b c Faulted = c

pub at_each_end : (P : Final → Type 0) (q : Final → Bool) → ((f : Final) → Decides (q f) (P f)) → Decides (each_end q) ((f : Final) → P f)
at_each_end P q d = (
  λ e.
      let s = and_parts (q RanToCompletion) (q Canceled && q Faulted) e in
      let r = and_parts (q Canceled) (q Faulted) s.1 in
      by_end P ((d RanToCompletion).0 s.0) ((d Canceled).0 r.0) ((d Faulted).0 r.1),
  λ f.
      and_join (q RanToCompletion) (q Canceled && q Faulted) ((d RanToCompletion).1 (f RanToCompletion))
      (and_join (q Canceled) (q Faulted) ((d Canceled).1 (f Canceled)) ((d Faulted).1 (f Faulted))),
)

some_end_has : (q : Final → Bool) (f : Final) → q f ≡ true → some_end q ≡ true
some_end_has q RanToCompletion e = or_left (q RanToCompletion) (q Canceled || q Faulted) e
some_end_has q Canceled e = or_right (q RanToCompletion) (q Canceled || q Faulted) (or_left (q Canceled) (q Faulted) e)
some_end_has q Faulted e = or_right (q RanToCompletion) (q Canceled || q Faulted) (or_right (q Canceled) (q Faulted) e)

the_end : (q : Final → Bool) → some_end q ≡ true → (f : Final) × (q f ≡ true)
the_end q e =
    elim (or_split (q RanToCompletion) (q Canceled || q Faulted) e) [
      | inl a ↦ (RanToCompletion, a)
      | inr r ↦ elim (or_split (q Canceled) (q Faulted) r) [ inl a ↦ (Canceled, a) | inr a ↦ (Faulted, a) ]
    ]

pub at_some_end : (P : Final → Type 0) (q : Final → Bool) → ((f : Final) → Decides (q f) (P f)) → Decides (some_end q) ((f : Final) × P f)
at_some_end P q d = (
  λ e. let r = the_end q e in (r.0, (d r.0).0 r.1),
  λ e. some_end_has q e.0 ((d e.0).1 e.1),
)

-- of the numbers of a list
pub of_all : (P : ℕ → Type 0) (q : ℕ → Bool) (xs : List ℕ) → ((x : ℕ) → Decides (q x) (P x)) → Decides (all_in q xs) ((x : ℕ) → mem x xs ≡ true → P x)
of_all P q xs d = (to xs, from xs)
  where
    to : (ys : List ℕ) → all_in q ys ≡ true → (x : ℕ) → mem x ys ≡ true → P x
    to [] e x m = true_false (sym m)
    to (y ∷ ys) e x m =
        let s = and_parts (q y) (all_in q ys) e in
        elim (mem_split x y ys m) [ inl a ↦ subst P (sym a) ((d y).0 s.0) | inr b ↦ to ys s.1 x b ]

    from : (ys : List ℕ) → ((x : ℕ) → mem x ys ≡ true → P x) → all_in q ys ≡ true
    from [] f = refl
    from (y ∷ ys) f = and_join (q y) (all_in q ys) ((d y).1 (f y (mem_here y y ys refl))) (from ys (λ x m. f x (mem_there x y ys m)))

pub of_some : (P : ℕ → Type 0) (q : ℕ → Bool) (xs : List ℕ) → ((x : ℕ) → Decides (q x) (P x)) → Decides (some_in q xs) ((x : ℕ) × (mem x xs ≡ true) × P x)
of_some P q xs d = (to xs, λ e. from xs e.0 e.1 e.2)
  where
    to : (ys : List ℕ) → some_in q ys ≡ true → (x : ℕ) × (mem x ys ≡ true) × P x
    to [] e = true_false (sym e)
    to (y ∷ ys) e =
        elim (or_split (q y) (some_in q ys) e) [
          | inl a ↦ (y, mem_here y y ys refl, (d y).0 a)
          | inr b ↦ let r = to ys b in (r.0, mem_there r.0 y ys r.1, r.2)
        ]

    from : (ys : List ℕ) (x : ℕ) → mem x ys ≡ true → P x → some_in q ys ≡ true
    from [] x m p = true_false (sym m)
    from (y ∷ ys) x m p =
        elim (mem_split x y ys m) [
          | inl a ↦ or_left (q y) (some_in q ys) ((d y).1 (subst P a p))
          | inr b ↦ or_right (q y) (some_in q ys) (from ys x b p)
        ]

-- of the numbers below n
pub below_some : (P : ℕ → Type 0) (q : ℕ → Bool) (n : ℕ) → ((x : ℕ) → Decides (q x) (P x)) → Decides (some_below q n) ((x : ℕ) × (x < n) × P x)
below_some P q n d = (to n, λ e. from n e.0 e.1 e.2)
  where
    to : (m : ℕ) → some_below q m ≡ true → (x : ℕ) × (x < m) × P x
    to zero e = true_false (sym e)
    to (suc m) e =
        elim (or_split (q m) (some_below q m) e) [
          | inl a ↦ (m, omega arith, (d m).0 a)
          | inr b ↦ let r = to m b in let lt = r.1 in (r.0, omega arith, r.2)
        ]

    from : (m x : ℕ) → x < m → P x → some_below q m ≡ true
    from zero x lt p = absurd (omega arith)
    from (suc m) x lt p =
        elim (cases_lt x m) [
          | inl less ↦ or_right (q m) (some_below q m) (from m x less p)
          | inr ge ↦ let same : x ≡ m = omega arith in or_left (q m) (some_below q m) ((d m).1 (subst P same p))
        ]
