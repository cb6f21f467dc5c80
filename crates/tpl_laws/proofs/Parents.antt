-- The parent of a child, and the tasks below one.
use Rattle.std.proofs.Common.{◌≡◌, ℕ, zero, suc, ◌+◌, ◌<◌, ◌≤◌, inl, inr, ◌||◌, Bool, true, Option, Some, None, refl, sym, ap, ◌∙◌, subst, arith, nat_eq, length}
use Rattle.std.proofs.lemmas.Option.{same_Some}
use Rattle.std.specs.Prelude.{Decides}
use Rattle.std.proofs.lemmas.Bool.{cases_lt, cases_Bool, and_parts, and_from, or_cases, or_left, or_right}
use Rattle.tpl_model.proofs.MemberLemmas.{same_self}
use Rattle.tpl_model.proofs.Truths.{same_tests, true_false}
use Rattle.tpl_model.specs.Members.{mem}
use Rattle.tpl_model.specs.Statements.{starts}
use Rattle.tpl_model.specs.Graph.{TaskGraph, body, attached, IsParent}
use Rattle.tpl_model.specs.Valid.{IsGraph}
use Rattle.tpl_model.specs.Certificate.{IsBelow, child, deeper}
use Rattle.tpl_laws.proofs.Basics.{if_true, if_false, same_number}
use Rattle.tpl_laws.proofs.Settling.{child_rules, attached_child, parent_task}
use Rattle.tpl_laws.specs.RowTests.{parent_from, parent_of, by_parent, below_by, below_within, is_below}

-- what is found is a parent
found_from : (g : TaskGraph) (t p n q : ℕ) → parent_from g t p n ≡ Some q → IsParent g q t
found_from g t p zero q e = absurd (cc)
found_from g t p (suc n) q e =
    elim (cases_Bool (mem t (starts (body g p)))) [
      | inl y ↦
          let s : Some p ≡ Some q = sym (if_true (mem t (starts (body g p))) (Some p) (parent_from g t (suc p) n) y) ∙ e in
          let same : p ≡ q = cc in
          subst (λ z. IsParent g z t) same y
      | inr y ↦ found_from g t (suc p) n q (sym (if_false (mem t (starts (body g p))) (Some p) (parent_from g t (suc p) n) y) ∙ e)
    ]

pub parent_is : (g : TaskGraph) (t q : ℕ) → parent_of g t ≡ Some q → IsParent g q t
parent_is g t q e = found_from g t 0 (length g.tasks) q e

-- one among the n tasks is found
finds_from : (g : TaskGraph) (t p n q : ℕ) → IsParent g q t → p ≤ q → q < p + n → (r : ℕ) × (parent_from g t p n ≡ Some r)
finds_from g t p zero q m a b = absurd (omega arith)
finds_from g t p (suc n) q m a b =
    elim (cases_Bool (mem t (starts (body g p)))) [
      | inl y ↦ (p, if_true (mem t (starts (body g p))) (Some p) (parent_from g t (suc p) n) y)
      | inr y ↦
          let later : suc p ≤ q = elim (cases_lt p q) [ inl lt ↦ (omega arith) | inr ge ↦ let same : p ≡ q = omega arith in true_false (sym (subst (λ z. IsParent g z t) (sym same) m) ∙ y) ] in
          let r = finds_from g t (suc p) n q m later (omega arith) in
          (r.0, if_false (mem t (starts (body g p))) (Some p) (parent_from g t (suc p) n) y ∙ r.1)
    ]

-- a child's parent is the one
pub the_parent : (g : TaskGraph) (p t : ℕ) → IsGraph g → IsParent g p t → parent_of g t ≡ Some p
the_parent g p t valid m =
    let inside : p < length g.tasks = parent_task g p t m in
    let r = finds_from g t 0 (length g.tasks) p m (omega arith) (omega arith) in
    r.1 ∙ ap Some ((child_rules g p t valid m).one_parent r.0 p (parent_is g t r.0 r.1) m)

pub parent_before : (g : TaskGraph) (p t : ℕ) → IsGraph g → IsParent g p t → p < t
parent_before g p t valid m =
    let rules = child_rules g p t valid m in
    let q = rules.parent (rules.child p m) in
    subst (λ z. z < t) (rules.one_parent q.0 p q.1 m) q.2

pub at_parent : (g : TaskGraph) (t : ℕ) (P : ℕ → Type 0) (q : ℕ → Bool) → IsGraph g → ((p : ℕ) → Decides (q p) (P p)) → Decides (by_parent (parent_of g t) q) ((p : ℕ) → IsParent g p t → P p)
at_parent g t P q valid d = by_option (parent_of g t) refl
  where
    by_option : (o : Option ℕ) → parent_of g t ≡ o → Decides (by_parent o q) ((p : ℕ) → IsParent g p t → P p)
    by_option None e = (λ b p m. none_here p (sym (the_parent g p t valid m) ∙ e), λ f. refl)
      where
        none_here : (p : ℕ) → Some p ≡ None → P p
        none_here p s = absurd (cc)
    by_option (Some r) e = (
      λ b p m. subst P (same_Some r p (sym e ∙ the_parent g p t valid m)) ((d r).0 b),
      λ f. (d r).1 (f r (parent_is g t r e)),
    )

-- up from x
below_found : (g : TaskGraph) (t n x : ℕ) → below_within g t n x ≡ true → IsBelow g t x
below_found g t zero x e = true_false (sym e)
below_found g t (suc n) x e = by_option (λ p. below_found g t n p) (parent_of g x) e
  where
    by_option : ((p : ℕ) → below_within g t n p ≡ true → IsBelow g t p) → (o : Option ℕ) → below_by g t x o (below_within g t n) ≡ true → IsBelow g t x
    by_option up None b = true_false (sym b)
    by_option up (Some p) b =
        let s = and_parts (mem x (attached g p)) (nat_eq p t || below_within g t n p) b in
        elim (or_cases (nat_eq p t) (below_within g t n p) s.1) [
          | inl a ↦ child (subst (λ z. mem x (attached g z) ≡ true) (same_number p t a) s.0)
          | inr a ↦ deeper (up p a) s.0
        ]

below_finds : (g : TaskGraph) (t n x : ℕ) → IsGraph g → IsBelow g t x → x ≤ n → below_within g t n x ≡ true
below_finds g t zero x valid (child m) a = let lt = parent_before g t x valid (attached_child g t x m) in absurd (omega arith)
below_finds g t zero x valid (deeper {p = p} b m) a = let lt = parent_before g p x valid (attached_child g p x m) in absurd (omega arith)
below_finds g t (suc n) x valid (child m) a =
    subst (λ z. below_by g t x z (below_within g t n) ≡ true) (sym (the_parent g t x valid (attached_child g t x m)))
    (and_from (mem x (attached g t)) (nat_eq t t || below_within g t n t) m (or_left (nat_eq t t) (below_within g t n t) (same_self t)))
below_finds g t (suc n) x valid (deeper {p = p} b m) a =
    let lt = parent_before g p x valid (attached_child g p x m) in
    subst (λ z. below_by g t x z (below_within g t n) ≡ true) (sym (the_parent g p x valid (attached_child g p x m)))
    (and_from (mem x (attached g p)) (nat_eq p t || below_within g t n p) m (or_right (nat_eq p t) (below_within g t n p) (below_finds g t n p valid b (omega arith))))

pub below : (g : TaskGraph) (t x : ℕ) → IsGraph g → Decides (is_below g t x) (IsBelow g t x)
below g t x valid = (below_found g t x x, λ b. below_finds g t x x valid b (omega arith))

-- one step up decides the same
step_found : (g : TaskGraph) (t x : ℕ) → IsGraph g → (o : Option ℕ) → below_by g t x o (is_below g t) ≡ true → IsBelow g t x
step_found g t x valid None b = true_false (sym b)
step_found g t x valid (Some p) b =
    let s = and_parts (mem x (attached g p)) (nat_eq p t || is_below g t p) b in
    elim (or_cases (nat_eq p t) (is_below g t p) s.1) [
      | inl a ↦ child (subst (λ z. mem x (attached g z) ≡ true) (same_number p t a) s.0)
      | inr a ↦ deeper ((below g t p valid).0 a) s.0
    ]

step_finds : (g : TaskGraph) (t x : ℕ) → IsGraph g → IsBelow g t x → below_by g t x (parent_of g x) (is_below g t) ≡ true
step_finds g t x valid (child m) =
    subst (λ z. below_by g t x z (is_below g t) ≡ true) (sym (the_parent g t x valid (attached_child g t x m)))
    (and_from (mem x (attached g t)) (nat_eq t t || is_below g t t) m (or_left (nat_eq t t) (is_below g t t) (same_self t)))
step_finds g t x valid (deeper {p = p} b m) =
    subst (λ z. below_by g t x z (is_below g t) ≡ true) (sym (the_parent g p x valid (attached_child g p x m)))
    (and_from (mem x (attached g p)) (nat_eq p t || is_below g t p) m (or_right (nat_eq p t) (is_below g t p) ((below g t p valid).1 b)))

pub below_step : (g : TaskGraph) (t x : ℕ) → IsGraph g → is_below g t x ≡ below_by g t x (parent_of g x) (is_below g t)
below_step g t x valid =
    same_tests (is_below g t x) (below_by g t x (parent_of g x) (is_below g t)) (λ e. step_finds g t x valid ((below g t x valid).0 e))
    (λ e. (below g t x valid).1 (step_found g t x valid (parent_of g x) e))
