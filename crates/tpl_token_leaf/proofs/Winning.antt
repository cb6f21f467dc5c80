-- Of the arguments of a task those that may win it, one by one.
use Rattle.std.proofs.Common.{◌≡◌, ℕ, ◌+◌, ◌<◌, ◌||◌, Bool, true, false, if◌then◌else◌, List, ◌∷◌, drop, filter, length, map, sym, ap, ◌∙◌, slice_index_or}
use Rattle.std.proofs.lemmas.List.{drop_more}
use Rattle.tpl_model.specs.declared.finals.Final.{Final}
use Rattle.tpl_model.specs.declared.finals.Finals.{Finals}
use Rattle.tpl_model.specs.declared.ids.TaskId.{TaskId}
use Rattle.tpl_model.specs.Finals.{has}
use Rattle.tpl_model.specs.Certificate.{PlainRow, row, one_ends}
use Rattle.tpl_draft.specs.Ids.{task_number}
use Rattle.tpl_graph.specs.Roles.{AreTasks}
use Rattle.tpl_checker.proofs.Basics.{or_assoc, tasks_left}

-- a list with its first task kept, or left out
pub kept : (p : ℕ → Bool) (x : ℕ) (xs : List ℕ) → p x ≡ true → filter p (x ∷ xs) ≡ x ∷ filter p xs
kept p x xs e = ap (λ (b : Bool). if b then (x ∷ filter p xs) else filter p xs) e

pub left_out : (p : ℕ → Bool) (x : ℕ) (xs : List ℕ) → p x ≡ false → filter p (x ∷ xs) ≡ filter p xs
left_out p x xs e = ap (λ (b : Bool). if b then (x ∷ filter p xs) else filter p xs) e

-- the ends of the first i arguments that may win
pub record EndsSoFar (n : ℕ) (p : ℕ → Bool) (rows : List PlainRow) (tasks : List TaskId) (i : ℕ) (finals : Finals) : Type 0 where
  pub left : AreTasks n (drop i tasks)
  pub same : (f : Final) → (has finals f || one_ends (filter p (map task_number (drop i tasks))) rows f) ≡ one_ends (filter p (map task_number tasks)) rows f

module _ {n : ℕ} {p : ℕ → Bool} {rows : List PlainRow} {tasks : List TaskId} {i : ℕ} {finals : Finals} (d : TaskId) (lt : i < length tasks) (s : EndsSoFar n p rows tasks i finals) where
  pub with_winner : (next : Finals) → p (slice_index_or tasks i d).0 ≡ true → ((f : Final) → has next f ≡ (has finals f || has (row rows (slice_index_or tasks i d).0).ends f)) → EndsSoFar n p rows tasks (i + 1) next
  with_winner next e h = record {
    left = tasks_left tasks i d lt n s.left;
    same = λ f.
        ap (λ z. z || one_ends (filter p (map task_number (drop (i + 1) tasks))) rows f) (h f)
        ∙ (or_assoc (has finals f) (has (row rows (slice_index_or tasks i d).0).ends f) (one_ends (filter p (map task_number (drop (i + 1) tasks))) rows f)
        ∙ (ap (λ (xs : List ℕ). has finals f || one_ends xs rows f) (sym (kept p (slice_index_or tasks i d).0 (map task_number (drop (i + 1) tasks)) e))
        ∙ (ap (λ (ts : List TaskId). has finals f || one_ends (filter p (map task_number ts)) rows f) (sym (drop_more tasks i d lt)) ∙ s.same f)));
  }

  pub without_loser : p (slice_index_or tasks i d).0 ≡ false → EndsSoFar n p rows tasks (i + 1) finals
  without_loser e = record {
    left = tasks_left tasks i d lt n s.left;
    same = λ f.
        ap (λ (xs : List ℕ). has finals f || one_ends xs rows f) (sym (left_out p (slice_index_or tasks i d).0 (map task_number (drop (i + 1) tasks)) e))
        ∙ (ap (λ (ts : List TaskId). has finals f || one_ends (filter p (map task_number ts)) rows f) (sym (drop_more tasks i d lt)) ∙ s.same f);
  }
