-- What is due, and whether a run is complete, by the sets that are kept.
use Rattle.std.proofs.Common.{◌≡◌, ℕ, zero, suc, ◌<◌, ◌≤◌, ◌&&◌, inl, inr, Bool, true, false, List, Option, Some, None, length, refl, sym, ap, ◌∙◌, subst, arith}
use Rattle.std.specs.Prelude.{IfSome, IfNone}
use Rattle.std.proofs.lemmas.Bool.{cases_lt, cases_eq, not-false, not-true}
use Rattle.tpl_model.proofs.Truths.{true_false}
use Rattle.tpl_model.specs.TaskSet.{is_set}
use Rattle.tpl_model.specs.declared.event.Act.{Act}
use Rattle.tpl_model.specs.declared.event.Event.{Event}
use Rattle.tpl_model.specs.Graph.{TaskGraph, is_task}
use Rattle.tpl_laws.specs.RunTests.{has_ended, all_below, is_complete}
use Rattle.tpl_run.specs.Journal.{Journal}
use Rattle.tpl_run.specs.Reading.{IsDue, HasDue, NoneDue, IsFirstDue}
use Rattle.tpl_fast.specs.Due.{IsRight, AreSets}

-- a task that has something due isn't without
pub one_found : (g : TaskGraph) (v : List Bool) (h : List Event) (t : ℕ) (A : Type 0) (o : Option Act) → HasDue g v h t → IfNone o (NoneDue g v h t) → IfNone o A
one_found g v h t A None due none = absurd (none due.0 due.1)
one_found g v h t A (Some act) due none = tt

pub first_found : (g : TaskGraph) (v : List Bool) (h : List Event) (o : Option Act) (t : ℕ) → IfSome o (λ act. IsDue g v h t act) → ((s : ℕ) → s < t → NoneDue g v h s) → IfSome o (λ act. IsFirstDue g v h act)
first_found g v h None t due none = tt
first_found g v h (Some act) t due none = (t, due, none)

-- a task that isn't in the set has nothing due
nothing_due : (j : Journal) (due : List ℕ) (t : ℕ) → IsRight j due t → is_set due t ≡ false → NoneDue j.graph j.inputs j.events t
nothing_due j due t right off act is = true_false (sym (right.1 (act, is)) ∙ off)

-- a task past the last has nothing due
past_due : (g : TaskGraph) (v : List Bool) (h : List Event) (t : ℕ) → length g.tasks ≤ t → NoneDue g v h t
past_due g v h t le act due = let lt = due.task in absurd (omega arith)

-- the least member of the set is the first task that has something due
pub first_due : (j : Journal) (due unended : List ℕ) → AreSets j due unended → (t : ℕ) → is_set due t ≡ true → ((s : ℕ) → s < t → is_set due s ≡ false) → is_task j.graph t × HasDue j.graph j.inputs j.events t × ((s : ℕ) → s < t → NoneDue j.graph j.inputs j.events s)
first_due j due unended k t on before =
    let lt : is_task j.graph t = elim (cases_lt t (length j.graph.tasks)) [ inl lt ↦ lt | inr le ↦ true_false (sym on ∙ k.none_due t le) ] in
    (lt, (k.each_due t lt).0 on, λ s less. nothing_due j due s (k.each_due s (omega arith)) (before s less))

pub none_first : (j : Journal) (due unended : List ℕ) → AreSets j due unended → ((s : ℕ) → is_set due s ≡ false) → (t : ℕ) → NoneDue j.graph j.inputs j.events t
none_first j due unended k off t = elim (cases_lt t (length j.graph.tasks)) [
  | inl lt ↦ nothing_due j due t (k.each_due t lt) (off t)
  | inr le ↦ past_due j.graph j.inputs j.events t le
]

-- what passes the test everywhere, and what fails it somewhere
all_pass : (test : ℕ → Bool) (n : ℕ) → ((t : ℕ) → t < n → test t ≡ true) → all_below test n ≡ true
all_pass test zero each = refl
all_pass test (suc n) each = ap (λ b. b && all_below test n) (each n (omega arith)) ∙ all_pass test n (λ t lt. each t (omega arith))

some_fails : (test : ℕ → Bool) (n t : ℕ) → t < n → test t ≡ false → all_below test n ≡ false
some_fails test zero t lt off = absurd (omega arith)
some_fails test (suc n) t lt off = elim (cases_eq t n) [
  | inl same ↦ ap (λ b. b && all_below test n) (subst (λ z. test z ≡ false) same off)
  | inr apart ↦ ap (λ b. test n && b) (some_fails test n t (omega arith) off) ∙ and_false (test n)
]
  where
    and_false : (b : Bool) → (b && false) ≡ false
    and_false true = refl
    and_false false = refl

pub complete_none : (j : Journal) (due unended : List ℕ) → AreSets j due unended → ((t : ℕ) → is_set unended t ≡ false) → is_complete j.graph j.inputs j.events ≡ true
complete_none j due unended k off = all_pass (has_ended j.graph j.inputs j.events) (length j.graph.tasks) (λ t lt. not-false (has_ended j.graph j.inputs j.events t) (sym (k.each_open t lt) ∙ off t))

pub complete_some : (j : Journal) (due unended : List ℕ) → AreSets j due unended → (t : ℕ) → is_set unended t ≡ true → is_complete j.graph j.inputs j.events ≡ false
complete_some j due unended k t on = elim (cases_lt t (length j.graph.tasks)) [
  | inl lt ↦ some_fails (has_ended j.graph j.inputs j.events) (length j.graph.tasks) t lt (not-true (has_ended j.graph j.inputs j.events t) (sym (k.each_open t lt) ∙ on))
  | inr le ↦ true_false (sym on ∙ k.none_open t le)
]
