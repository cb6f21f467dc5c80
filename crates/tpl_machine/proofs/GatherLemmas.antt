-- The exceptions that a task takes over, so far.
use Rattle.std.proofs.Common.{◌≡◌, ℕ, ◌+◌, ◌<◌, Bool, true, false, List, ◌∷◌, drop, length, get_or, map, sym, ap, ◌∙◌}
use Rattle.std.specs.Prelude.{if◌then◌else◌}
use Rattle.std.proofs.lemmas.List.{drop_more}
use Rattle.std.specs.Prelude.{vec_capacity}
use Rattle.std.specs.declared.vec.Vec.{Vec}
use Rattle.std.specs.declared.alloc.Global.{Global}
use Rattle.tpl_model.specs.declared.ids.TaskId.{TaskId}
use Rattle.tpl_model.specs.Members.{mem, joined}
use Rattle.tpl_model.specs.Facts.{carried_in, gathered, those_started}
use Rattle.tpl_draft.specs.Ids.{task_number}
use Rattle.tpl_machine.specs.Gathering.{IsBeside}
use Rattle.tpl_run.specs.Rows.{TaskRow, ending_in}

-- what the first i of the tasks carry is in the list
pub record GatheredSoFar (first now : Vec TaskId Global) (members : List ℕ) (rows : List TaskRow) (tasks : List TaskId) (i : ℕ) : Type 0 where
  pub gathers : gathered (map task_number now.items) (map task_number (drop i tasks)) (ending_in rows) ≡ gathered (map task_number first.items) (map task_number tasks) (ending_in rows)
  pub beside : IsBeside members now
  pub capacity : vec_capacity now ≡ vec_capacity first

-- the same of the started children
pub record StartedSoFar (first now : Vec TaskId Global) (members : List ℕ) (rows : List TaskRow) (begun : List ℕ) (tasks : List TaskId) (i : ℕ) : Type 0 where
  pub gathers : gathered (map task_number now.items) (those_started (map task_number (drop i tasks)) (λ c. mem c begun)) (ending_in rows) ≡ gathered (map task_number first.items) (those_started (map task_number tasks) (λ c. mem c begun)) (ending_in rows)
  pub beside : IsBeside members now
  pub capacity : vec_capacity now ≡ vec_capacity first

later : List TaskId → List ℕ → ℕ → List ℕ
later tasks begun i = those_started (map task_number (drop i tasks)) (λ c. mem c begun)

choose : (xs next L : List ℕ) (c : ℕ) (rows : List TaskRow) (b : Bool) → next ≡ (if b then joined xs (carried_in (ending_in rows c)) else xs) → gathered next L (ending_in rows) ≡ gathered xs (if b then c ∷ L else L) (ending_in rows)
choose xs next L c rows true e = ap (λ zs. gathered zs L (ending_in rows)) e
choose xs next L c rows false e = ap (λ zs. gathered zs L (ending_in rows)) e

pub started_step : (first now next : Vec TaskId Global) (members members' : List ℕ) (rows : List TaskRow) (begun : List ℕ) (tasks : List TaskId) (i : ℕ) (d : TaskId) → i < length tasks → StartedSoFar first now members rows begun tasks i → map task_number next.items ≡ (if mem (get_or tasks i d).0 begun then joined (map task_number now.items) (carried_in (ending_in rows (get_or tasks i d).0)) else map task_number now.items) → IsBeside members' next → vec_capacity next ≡ vec_capacity now → StartedSoFar first next members' rows begun tasks (i + 1)
unfolding later
started_step first now next members members' rows begun tasks i d lt so_far items kept capacity = record {
  gathers =
      choose (map task_number now.items) (map task_number next.items) (later tasks begun (i + 1)) (get_or tasks i d).0 rows (mem (get_or tasks i d).0 begun) items
      ∙ (ap (λ ds. gathered (map task_number now.items) (those_started (map task_number ds) (λ c. mem c begun)) (ending_in rows)) (sym (drop_more tasks i d lt)) ∙ so_far.gathers);
  beside = kept;
  capacity = capacity ∙ so_far.capacity;
}
