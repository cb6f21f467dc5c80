-- What holds once tasks have ended, one by one.
use Rattle.std.proofs.Common.{◌≡◌, ℕ, ◌+◌, ◌<◌, ◌&&◌, ◌||◌, Bool, true, false, Option, None, List, ◌∷◌, drop, filter, length, map, refl, sym, ap, ◌∙◌, slice_index_or}
use Rattle.std.proofs.lemmas.List.{drop_more}
use Rattle.tpl_model.proofs.Truths.{and_assoc, and_true}
use Rattle.tpl_model.specs.declared.ids.TaskId.{TaskId}
use Rattle.tpl_model.specs.Knowledge.{Fact}
use Rattle.tpl_model.specs.Graph.{some_in}
use Rattle.tpl_model.specs.Certificate.{may_end, Row, plain}
use Rattle.tpl_model.specs.TokenRules.{once_ended}
use Rattle.tpl_paths.specs.declared.facts.Facts.{Facts}
use Rattle.tpl_paths.specs.Facts.{has_fact}
use Rattle.tpl_draft.specs.Ids.{task_number}
use Rattle.tpl_graph.specs.Roles.{AreTasks}
use Rattle.tpl_laws.specs.RowTests.{all_in, implies}
use Rattle.tpl_checker.proofs.Basics.{implies_and, some_more, tasks_left}
use Rattle.tpl_token_leaf.specs.Ways.{holds_in_all}
use Rattle.tpl_token_leaf.proofs.Winning.{kept, left_out}

-- a fact that holds once y has ended
abbrev pub after : List Row → Fact → ℕ → Bool
after rows f y = once_ended rows y f

-- once some of the first i tasks has ended
pub record AfterSome (n : ℕ) (rows : List Row) (tasks : List TaskId) (i : ℕ) (facts : Facts) : Type 0 where
  pub left : AreTasks n (drop i tasks)
  pub same : (f : Fact) → (has_fact facts f || some_in (after rows f) (map task_number (drop i tasks))) ≡ some_in (after rows f) (map task_number tasks)

pub none_yet : (n : ℕ) (rows : List Row) (tasks : List TaskId) (facts : Facts) → AreTasks n tasks → ((f : Fact) → has_fact facts f ≡ false) → AfterSome n rows tasks 0 facts
none_yet n rows tasks facts a h = record { left = a; same = λ f. ap (λ z. z || some_in (after rows f) (map task_number tasks)) (h f) }

pub some_step : {n : ℕ} {rows : List Row} {tasks : List TaskId} {i : ℕ} {facts : Facts} (next : Facts) (d : TaskId) → i < length tasks → AfterSome n rows tasks i facts
    → ((f : Fact) → has_fact next f ≡ (has_fact facts f || once_ended rows (slice_index_or tasks i d).0 f)) → AfterSome n rows tasks (i + 1) next
some_step {n} {rows} {tasks} {i} {facts} next d lt s h = record {
  left = tasks_left tasks i d lt n s.left;
  same = λ f. ap (λ z. z || some_in (after rows f) (map task_number (drop (i + 1) tasks))) (h f) ∙ (some_more tasks i d lt (after rows f) (has_fact facts f) ∙ s.same f);
}

-- a fact that holds once y has ended, if it may
abbrev pub after_end : List Row → Fact → ℕ → Bool
after_end rows f y = implies (may_end (plain rows) y) (once_ended rows y f)

-- the facts that hold once each of the first i tasks has ended that may win
pub record AfterEach (n : ℕ) (p : ℕ → Bool) (rows : List Row) (tasks : List TaskId) (i : ℕ) (facts : Option Facts) : Type 0 where
  pub left : AreTasks n (drop i tasks)
  pub same : (f : Fact) → (holds_in_all facts f && all_in (after_end rows f) (filter p (map task_number (drop i tasks)))) ≡ all_in (after_end rows f) (filter p (map task_number tasks))

pub no_end : (n : ℕ) (p : ℕ → Bool) (rows : List Row) (tasks : List TaskId) → AreTasks n tasks → AfterEach n p rows tasks 0 None
no_end n p rows tasks a = record { left = a; same = λ f. refl }

-- a test of those in a list that pass another
pub filtered_all : (test p : ℕ → Bool) (x : ℕ) (xs : List ℕ) → all_in test (filter p (x ∷ xs)) ≡ (implies (p x) (test x) && all_in test (filter p xs))
filtered_all test p x xs = by_test (p x) refl
  where
    by_test : (b : Bool) → p x ≡ b → all_in test (filter p (x ∷ xs)) ≡ (implies b (test x) && all_in test (filter p xs))
    by_test true e = ap (λ (ys : List ℕ). all_in test ys) (kept p x xs e)
    by_test false e = ap (λ (ys : List ℕ). all_in test ys) (left_out p x xs e)

module _ {n : ℕ} {p : ℕ → Bool} {rows : List Row} {tasks : List TaskId} {i : ℕ} {facts : Option Facts} (d : TaskId) (lt : i < length tasks) (s : AfterEach n p rows tasks i facts) where
  each_step : (b : Bool) (next : Option Facts) → b ≡ (p (slice_index_or tasks i d).0 && may_end (plain rows) (slice_index_or tasks i d).0)
      → ((f : Fact) → holds_in_all next f ≡ (holds_in_all facts f && implies b (once_ended rows (slice_index_or tasks i d).0 f))) → AfterEach n p rows tasks (i + 1) next
  each_step b next e h = record {
    left = tasks_left tasks i d lt n s.left;
    same = λ f.
        ap (λ z. z && all_in (after_end rows f) (filter p (map task_number (drop (i + 1) tasks)))) (h f)
        ∙ (and_assoc (holds_in_all facts f) (implies b (once_ended rows (slice_index_or tasks i d).0 f)) (all_in (after_end rows f) (filter p (map task_number (drop (i + 1) tasks))))
        ∙ (ap (λ z. holds_in_all facts f && z)
        (ap (λ z. implies z (once_ended rows (slice_index_or tasks i d).0 f) && all_in (after_end rows f) (filter p (map task_number (drop (i + 1) tasks)))) e
        ∙ (ap (λ z. z && all_in (after_end rows f) (filter p (map task_number (drop (i + 1) tasks)))) (implies_and (p (slice_index_or tasks i d).0) (may_end (plain rows) (slice_index_or tasks i d).0) (once_ended rows (slice_index_or tasks i d).0 f))
        ∙ sym (filtered_all (after_end rows f) p (slice_index_or tasks i d).0 (map task_number (drop (i + 1) tasks)))))
        ∙ (ap (λ (ts : List TaskId). holds_in_all facts f && all_in (after_end rows f) (filter p (map task_number ts))) (sym (drop_more tasks i d lt)) ∙ s.same f)));
  }

  -- a task that may end and win, and another
  pub with_end_of : (next : Option Facts) → true ≡ (p (slice_index_or tasks i d).0 && may_end (plain rows) (slice_index_or tasks i d).0)
      → ((f : Fact) → holds_in_all next f ≡ (holds_in_all facts f && once_ended rows (slice_index_or tasks i d).0 f)) → AfterEach n p rows tasks (i + 1) next
  with_end_of next e h = each_step true next e h

  pub without_end : false ≡ (p (slice_index_or tasks i d).0 && may_end (plain rows) (slice_index_or tasks i d).0) → AfterEach n p rows tasks (i + 1) facts
  without_end e = each_step false facts e (λ f. sym (and_true (holds_in_all facts f)))
