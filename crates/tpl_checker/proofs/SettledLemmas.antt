-- What is settled after some of a list of tasks, or after each.
use Rattle.std.proofs.Common.{◌≡◌, ℕ, ◌+◌, ◌<◌, ◌&&◌, ◌||◌, Bool, true, false, List, drop, length, map, sym, ap, ◌∙◌, nat_eq, slice_index_or}
use Rattle.tpl_model.proofs.Truths.{and_true}
use Rattle.tpl_model.specs.declared.ids.TaskId.{TaskId}
use Rattle.tpl_model.specs.Members.{mem}
use Rattle.tpl_model.specs.Graph.{some_in}
use Rattle.tpl_model.specs.Certificate.{PlainRow, row, Assumed}
use Rattle.tpl_draft.specs.Ids.{task_number}
use Rattle.tpl_laws.specs.RowTests.{all_in, implies}
use Rattle.tpl_graph.specs.Roles.{AreTasks}
use Rattle.tpl_checker.proofs.Basics.{all_more, some_more, tasks_left}

-- x is the task y or past it
abbrev pub after : List PlainRow → ℕ → ℕ → Bool
after rows x y = nat_eq x y || mem x (row rows y).past

-- after some of the first i tasks
pub record AfterSome (rows : List PlainRow) (tasks : List TaskId) (i : ℕ) (settled : List ℕ) : Type 0 where
  pub left : AreTasks (length rows) (drop i tasks)
  pub members : (x : ℕ) → (mem x settled || some_in (after rows x) (map task_number (drop i tasks))) ≡ some_in (after rows x) (map task_number tasks)

-- of the set what is after each of the first i tasks
pub record AfterEach (rows : List PlainRow) (tasks : List TaskId) (set : List ℕ) (i : ℕ) (settled : List ℕ) : Type 0 where
  pub left : AreTasks (length rows) (drop i tasks)
  pub members : (x : ℕ) → (mem x settled && all_in (after rows x) (map task_number (drop i tasks))) ≡ (mem x set && all_in (after rows x) (map task_number tasks))

pub some_step : (rows : List PlainRow) (tasks : List TaskId) (i : ℕ) (settled next : List ℕ) (d : TaskId) → i < length tasks → AfterSome rows tasks i settled → ((x : ℕ) → mem x next ≡ (mem x settled || after rows x (slice_index_or tasks i d).0)) → AfterSome rows tasks (i + 1) next
some_step rows tasks i settled next d lt s h = record {
  left = tasks_left tasks i d lt (length rows) s.left;
  members = λ x. ap (λ z. z || some_in (after rows x) (map task_number (drop (i + 1) tasks))) (h x) ∙ (some_more tasks i d lt (after rows x) (mem x settled) ∙ s.members x);
}

pub each_step : (rows : List PlainRow) (tasks : List TaskId) (set : List ℕ) (i : ℕ) (settled next : List ℕ) (d : TaskId) → i < length tasks → AfterEach rows tasks set i settled → ((x : ℕ) → mem x next ≡ (mem x settled && after rows x (slice_index_or tasks i d).0)) → AfterEach rows tasks set (i + 1) next
each_step rows tasks set i settled next d lt s h = record {
  left = tasks_left tasks i d lt (length rows) s.left;
  members = λ x. ap (λ z. z && all_in (after rows x) (map task_number (drop (i + 1) tasks))) (h x) ∙ (all_more tasks i d lt (after rows x) (mem x settled) ∙ s.members x);
}
