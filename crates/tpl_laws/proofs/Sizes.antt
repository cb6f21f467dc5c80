-- What is left of a body gets smaller.
use Rattle.std.proofs.Common.{◌≡◌, ℕ, ◌+◌, ◌<◌, ◌≤◌, Bool, true, false, Option, List, sym, subst, arith, if◌then◌else◌, slice_index_or, nat_eq, inl, inr}
use Rattle.tpl_model.proofs.MemberLemmas.{same_self}
use Rattle.tpl_model.proofs.Truths.{true_false}
use Rattle.tpl_model.specs.Statements.{Check, Work, If, When, Statements, Nothing, ◌⨾◌, followed_by}
use Rattle.tpl_model.specs.Graph.{TaskGraph, task, kind}
use Rattle.tpl_model.specs.declared.status.Actor.{Actor}
use Rattle.tpl_model.specs.declared.status.Answer.{Answer}
use Rattle.tpl_model.specs.declared.status.Answer.TheVariants.{Done, Failed}
use Rattle.tpl_model.specs.declared.event.Act.{Act}
use Rattle.tpl_model.specs.declared.event.Act.TheVariants.{Step, Worked}
use Rattle.tpl_model.specs.declared.event.Event.{Event}
use Rattle.tpl_model.specs.Facts.{Rest, Ending, on, over, has_final, subject_in, stepped, worked, rest, requested, ending}
use Rattle.tpl_model.specs.Paths.{cancellation}
use Rattle.tpl_model.specs.Rules.{Allows, steps, works}
use Rattle.tpl_model.specs.Limits.{statement_count}
use Rattle.tpl_laws.proofs.Basics.{if_true}
use Rattle.tpl_laws.proofs.Kept.{id, after}
use Rattle.tpl_laws.proofs.Execution.{Passes, passes_or_stays}

size_ahead : (a more : Statements) → statement_count (followed_by a more) ≡ statement_count a + statement_count more
size_ahead Nothing more = omega arith
size_ahead (s ⨾ a) more = let r = size_ahead a more in omega arith

either_rest : (b : Bool) (x y : Rest) (n : ℕ) → statement_count x.left < n → statement_count y.left < n → statement_count (if b then x else y).left < n
either_rest true x y n p q = p
either_rest false x y n p q = q

either_ahead : (b : Bool) (x y more : Statements) → statement_count (followed_by (if b then x else y) more) < 1 + statement_count x + statement_count y + statement_count more
either_ahead true x y more = let r = size_ahead x more in omega arith
either_ahead false x y more = let r = size_ahead y more in omega arith

-- a step leaves less
step_smaller : (g : TaskGraph) (v : List Bool) (t : ℕ) (left : Statements) (req : ℕ → Bool) (en : ℕ → Option Ending) → steps left ≡ true → statement_count (stepped g v t left req en).left < statement_count left
step_smaller g v t Nothing req en s = true_false (sym s)
step_smaller g v t (Check k ⨾ more) req en s = either_rest (req k) (over (cancellation (task g t).token k)) (on more) (1 + statement_count more) (omega arith) (omega arith)
step_smaller g v t (Work site f ⨾ more) req en s = true_false (sym s)
step_smaller g v t (If i a b ⨾ more) req en s = either_ahead (slice_index_or v i false) a b more
step_smaller g v t (When f a b ⨾ more) req en s = either_ahead (has_final f en (subject_in g (kind g t) en)) a b more
step_smaller g v t left req en s = omega arith

-- a job leaves less
work_smaller : (answer : Answer) (left : Statements) → works answer left ≡ true → statement_count (worked answer left).left < statement_count left
work_smaller Done (Work s m ⨾ more) e = omega arith
work_smaller Failed (Work s m ⨾ more) e = omega arith
work_smaller answer left e = true_false (sym e)

-- the task whose statement an act passes has less left
pub passed_smaller : (g : TaskGraph) (v : List Bool) (h : List Event) (a : Actor) (x : Act) (t : ℕ) → Passes x t → Allows g v h a x → statement_count (rest g v (after a x h) t).left < statement_count (rest g v h t).left
passed_smaller g v h a x t (inl e) al = subst (λ z. Allows g v h a z → statement_count (rest g v (after a z h) t).left < statement_count (rest g v h t).left) (sym e) by_step al
  where
    by_step : Allows g v h a (Step (id t)) → statement_count (rest g v (after a (Step (id t)) h) t).left < statement_count (rest g v h t).left
    by_step al = subst (λ z. statement_count z.left < statement_count (rest g v h t).left) (sym (if_true (nat_eq t t) (stepped g v t (rest g v h t).left (requested g v h) (ending g v h)) (rest g v h t) (same_self t))) (step_smaller g v t (rest g v h t).left (requested g v h) (ending g v h) al.2)
passed_smaller g v h a x t (inr (w, e)) al = subst (λ z. Allows g v h a z → statement_count (rest g v (after a z h) t).left < statement_count (rest g v h t).left) (sym e) by_work al
  where
    by_work : Allows g v h a (Worked (id t) w) → statement_count (rest g v (after a (Worked (id t) w) h) t).left < statement_count (rest g v h t).left
    by_work al = subst (λ z. statement_count z.left < statement_count (rest g v h t).left) (sym (if_true (nat_eq t t) (worked w (rest g v h t).left) (rest g v h t) (same_self t))) (work_smaller w (rest g v h t).left al.2)

-- no act leaves more of a body
pub rest_no_larger : (g : TaskGraph) (v : List Bool) (h : List Event) (a : Actor) (x : Act) (t : ℕ) → Allows g v h a x → statement_count (rest g v (after a x h) t).left ≤ statement_count (rest g v h t).left
rest_no_larger g v h a x t al =
    elim (passes_or_stays g v h a x t) [
      | inl p ↦ let r = passed_smaller g v h a x t p al in omega arith
      | inr same ↦ subst (λ z. statement_count z.left ≤ statement_count (rest g v h t).left) (sym same.0) (omega arith)
    ]
