-- The tasks below one, found in one pass.
use Rattle.std.proofs.Common.{◌≡◌, ℕ, suc, ◌+◌, ◌<◌, ◌&&◌, ◌||◌, Bool, true, false, Option, Some, None, List, [], ◌∷◌, refl, sym, ap, ◌∙◌, subst, nat_eq, nat_lt, arith, inl, inr, length, filter, not, ◌≤◌, slice_index_or, slice_set, map}
use Rattle.std.proofs.lemmas.Bool.{cases_lt, cases_Bool}
use Rattle.std.proofs.lemmas.Bool.Decides.{eqb_tells}
use Rattle.std.proofs.lemmas.List.{get_or-set_same, get_or-set_other, length-set}
use Rattle.tpl_model.specs.Members.{mem}
use Rattle.std.specs.Prelude.{◌==◌}
use Rattle.tpl_laws.proofs.Settling.{attached_child, child_task}
use Rattle.tpl_model.proofs.Truths.{true_false}
use Rattle.tpl_laws.proofs.Parents.{parent_before}
use Rattle.tpl_model.specs.declared.ids.TaskId.{TaskId}
use Rattle.tpl_draft.specs.Ids.{task_number}
use Rattle.tpl_model.specs.Options.{attached_to_parent, deny_child_attach}
use Rattle.tpl_model.specs.Statements.{Statements, starts}
use Rattle.tpl_model.specs.Graph.{TaskGraph, attached, options, IsParent}
use Rattle.tpl_model.specs.Valid.{IsGraph}
use Rattle.tpl_model.specs.Certificate.{IsBelow, child, deeper}
use Rattle.tpl_laws.specs.RowTests.{below_by, is_below, parent_of}
use Rattle.tpl_laws.specs.Decided.{BelowInOnePass, BelowIsRight, ParentIsRight}
use Rattle.tpl_checker.proofs.ChildLemmas.{no_body}
use Rattle.tpl_checker.proofs.BodyLemmas.{lt_next, lt_other, member_step}

-- those of the first n tasks
pub record BelowSoFar (g : TaskGraph) (t n : ℕ) (found : List ℕ) : Type 0 where
  pub members : (x : ℕ) → mem x found ≡ (nat_lt x n && is_below g t x)

pub none_below : (g : TaskGraph) (t : ℕ) (found : List ℕ) → found ≡ [] → BelowSoFar g t 0 found
none_below g t found e = record { members = λ x. ap (mem x) e ∙ ap (λ z. z && is_below g t x) (sym (no_lt x)) }
  where
    no_lt : (x : ℕ) → nat_lt x 0 ≡ false
    no_lt x = grind arith

module _ (g : TaskGraph) (t c : ℕ) (valid : IsGraph g) (law : BelowInOnePass) (parents : ParentIsRight) (found : List ℕ) (so_far : BelowSoFar g t c found) where
  by_option : (o : Option ℕ) → parent_of g c ≡ o → below_by g t c o (λ p. mem p found) ≡ below_by g t c o (is_below g t)
  by_option None e = refl
  by_option (Some p) e =
      ap (λ z. mem c (attached g p) && (nat_eq p t || z))
      (so_far.members p ∙ ap (λ z. z && is_below g t p) (yes p c (parent_before g p c valid ((parents g p c valid).0 e))))
    where
      yes : (a n : ℕ) → a < n → nat_lt a n ≡ true
      yes a n lt = grind arith

  is_right : (flag : Bool) → flag ≡ below_by g t c (parent_of g c) (λ p. mem p found) → flag ≡ is_below g t c
  is_right flag e = e ∙ (by_option (parent_of g c) refl ∙ sym (law g t c valid))

  next : (found' : List ℕ) → ((x : ℕ) → mem x found' ≡ (nat_lt x (suc c) && is_below g t x)) → BelowSoFar g t (c + 1) found'
  next found' h = subst (λ n. BelowSoFar g t n found') (omega arith) (record { members = h })

  pub below_step : (flag : Bool) (found' : List ℕ) → flag ≡ below_by g t c (parent_of g c) (λ p. mem p found) → ((x : ℕ) → mem x found' ≡ ((flag && nat_eq x c) || mem x found)) → BelowSoFar g t (c + 1) found'
  below_step flag found' e h = next found' (λ x. member_step (is_below g t) c x flag (mem x found) (mem x found') (is_right flag e) (so_far.members x) (h x))

is_child : (g : TaskGraph) (t x : ℕ) → IsBelow g t x → (p : ℕ) × IsParent g p x
is_child g t x (child m) = (t, attached_child g t x m)
is_child g t x (deeper {p = p} b m) = (p, attached_child g p x m)

-- a test that only numbers below n pass, of those below n
within_all : (a n : ℕ) (b : Bool) → (b ≡ true → a < n) → (nat_lt a n && b) ≡ b
within_all a n true h = let lt = h refl in grind arith
within_all a n false h = grind arith

-- all of them
pub below_at_last : (g : TaskGraph) (t : ℕ) → IsGraph g → BelowIsRight → (found : List ℕ) → BelowSoFar g t (length g.tasks) found → (x : ℕ) → mem x found ≡ is_below g t x
below_at_last g t valid law found so_far x =
    so_far.members x ∙ within_all x (length g.tasks) (is_below g t x) (λ e. let p = is_child g t x ((law g t x valid).0 e) in child_task g p.0 x valid p.1)

-- below a task without attached children there is none
nothing : (g : TaskGraph) (t x : ℕ) → attached g t ≡ [] → IsBelow g t x → ⊥
nothing g t x e (child m) = true_false (sym m ∙ ap (mem x) e)
nothing g t x e (deeper {p = p} b m) = nothing g t p e b

pub nothing_below : (g : TaskGraph) (t : ℕ) → IsGraph g → BelowIsRight → attached g t ≡ [] → (x : ℕ) → is_below g t x ≡ false
nothing_below g t valid law e x = elim (cases_Bool (is_below g t x)) [ inl q ↦ absurd (nothing g t x e ((law g t x valid).0 q)) | inr q ↦ q ]

-- past the last task there is no child
pub nothing_attached : (g : TaskGraph) (t : ℕ) → length g.tasks ≤ t → attached g t ≡ []
nothing_attached g t le = ap (λ (b : Statements). filter (λ c. attached_to_parent (options g c) && not (deny_child_attach (options g t))) (starts b)) (no_body g t le)

-- the sets of the first n tasks are made
pub record SetsSoFar (g : TaskGraph) (sets : List (List ℕ)) (n : ℕ) : Type 0 where
  pub long : length sets ≡ 1024
  pub members : (t x : ℕ) → mem x (slice_index_or sets t []) ≡ (nat_lt t n && is_below g t x)

pub sets_at_first : (g : TaskGraph) (sets : List (List ℕ)) → length sets ≡ 1024 → ((t : ℕ) → slice_index_or sets t [] ≡ []) → SetsSoFar g sets 0
sets_at_first g sets long e = record { long = long; members = λ t x. ap (mem x) (e t) ∙ ap (λ z. z && is_below g t x) (sym (no_lt t)) }
  where
    no_lt : (x : ℕ) → nat_lt x 0 ≡ false
    no_lt x = grind arith

pub sets_step : (g : TaskGraph) (sets : List (List ℕ)) (n : ℕ) (set : List ℕ) → n < 1024 → ((x : ℕ) → mem x set ≡ is_below g n x) → SetsSoFar g sets n → SetsSoFar g (slice_set sets n set) (n + 1)
sets_step g sets n set lt h s = record { long = length-set sets n set ∙ s.long; members = λ t x. subst (λ m. mem x (slice_index_or (slice_set sets n set) t []) ≡ (nat_lt t m && is_below g t x)) up (at t x) }
  where
    up : suc n ≡ n + 1
    up = omega arith

    within : n < length sets
    within = omega (arith, s.long)

    at : (t x : ℕ) → mem x (slice_index_or (slice_set sets n set) t []) ≡ (nat_lt t (suc n) && is_below g t x)
    at t x = elim (eqb_tells t n) [
      | inl (e, q) ↦
          ap (mem x) (subst (λ z. slice_index_or (slice_set sets n set) z [] ≡ set) (sym q) (get_or-set_same sets n set [] within))
          ∙ (h x ∙ (ap (λ z. z && is_below g n x) (sym (lt_next n)) ∙ ap (λ z. nat_lt z (suc n) && is_below g z x) (sym q)))
      | inr (e, other) ↦
          ap (mem x) (get_or-set_other sets n t set [] other) ∙ (s.members t x ∙ ap (λ z. z && is_below g t x) (sym (lt_other t n other)))
    ]

-- past the last task there is nothing below
pub sets_at_last : (g : TaskGraph) (sets : List (List ℕ)) → IsGraph g → BelowIsRight → SetsSoFar g sets (length g.tasks) → (t x : ℕ) → mem x (slice_index_or sets t []) ≡ is_below g t x
sets_at_last g sets valid law s t x = s.members t x ∙ within_all t (length g.tasks) (is_below g t x) (λ e. elim (cases_lt t (length g.tasks)) [
  | inl lt ↦ lt
  | inr le ↦ true_false (sym e ∙ nothing_below g t valid law (nothing_attached g t le) x)
])

some_length : (n : ℕ) → not (suc n == 0) ≡ true
some_length n = elim (eqb_tells (suc n) 0) [ inl (e, q) ↦ absurd (omega arith) | inr (e, other) ↦ ap not e ]

pub empty_tasks : (ts : List TaskId) (xs : List ℕ) → map task_number ts ≡ xs → (flag : Bool) → flag ≡ not (length ts == 0) → flag ≡ false → xs ≡ []
empty_tasks [] xs e flag is off = sym e
empty_tasks (t ∷ ts) xs e flag is off = true_false (sym (some_length (length ts)) ∙ (sym is ∙ off))
