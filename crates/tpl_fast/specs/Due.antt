-- What is due, what a task waits for, and which tasks are looked at again when that changes.
use Rattle.std.specs.Prelude.{◌≡◌, ◌↔◌, ℕ, ◌≤◌, ◌||◌, Bool, true, false, Option, Some, None, List, length, map, slice_get, nat_eq, not}
use Rattle.std.specs.declared.vec.Vec.{Vec}
use Rattle.std.specs.declared.alloc.Global.{Global}
use Rattle.tpl_model.specs.declared.ids.TaskId.{TaskId}
use Rattle.tpl_model.specs.Members.{mem}
use Rattle.tpl_model.specs.TaskSet.{is_set}
use Rattle.tpl_model.specs.declared.event.Act.{Act}
use Rattle.tpl_model.specs.declared.event.Act.TheVariants.{Release, Leave}
use Rattle.tpl_model.specs.Graph.{TaskGraph, TaskKind, Continues, WhenAll, WhenAny, kind, task, attached, is_task}
use Rattle.tpl_draft.specs.Ids.{task_number}
use Rattle.tpl_laws.specs.RunTests.{has_ended}
use Rattle.tpl_run.specs.Reading.{HasDue, due_task}
use Rattle.tpl_run.specs.Journal.{Journal}

-- a task of this kind waits for x
abbrev pub awaits : TaskKind → ℕ → Bool
awaits (Continues a) x = nat_eq a x
awaits (WhenAll args) x = mem x args
awaits (WhenAny args) x = mem x args
awaits kind x = false

-- t waits for x: it continues x, x is one of its arguments, or x is one of its attached children
abbrev pub waits : TaskGraph → ℕ → ℕ → Bool
waits g t x = awaits (kind g t) x || mem x (attached g t)

-- the task that an act may end
abbrev pub ender : Act → Option ℕ
ender (Leave t) = Some t.0
ender (Release t) = None
ender act = due_task act

-- t is in the x-th of the lists
abbrev pub in_some : Option (Vec TaskId Global) → ℕ → Bool
in_some None t = false
in_some (Some list) t = mem t (map task_number list.items)

abbrev pub is_told : List (Vec TaskId Global) → ℕ → ℕ → Bool
is_told lists x t = in_some (slice_get lists x) t

-- whatever was in one of the lists still is
abbrev pub Keep : (before now : List (Vec TaskId Global)) → Type 0
Keep before now = (x t : ℕ) → is_told before x t ≡ true → is_told now x t ≡ true

-- each task is in the list of each task that it waits for, and in that of its own token
pub record AreTold (g : TaskGraph) (waiters owners : List (Vec TaskId Global)) : Type 0 where
  pub waiting : (t x : ℕ) → is_task g t → is_task g x → waits g t x ≡ true → is_told waiters x t ≡ true
  pub owning : (t k : ℕ) → is_task g t → (task g t).token ≡ Some k → is_told owners k t ≡ true

-- t is in the set just where it has something due
abbrev pub IsRight : Journal → List ℕ → ℕ → Type 0
IsRight j due t = (is_set due t ≡ true) ↔ HasDue j.graph j.inputs j.events t

abbrev pub IsOpenRight : Journal → List ℕ → ℕ → Type 0
IsOpenRight j unended t = is_set unended t ≡ not (has_ended j.graph j.inputs j.events t)

-- where the old set was right about a task the new one is, and nothing past the last task changes
pub record Keeps (j : Journal) (right : ℕ → List ℕ → Type 0) (before now : List ℕ) : Type 0 where
  pub still : (t : ℕ) → right t before → right t now
  pub outside : (t : ℕ) → length j.graph.tasks ≤ t → is_set now t ≡ is_set before t

-- in the first set are the tasks that have something due, in the second those that must still end
pub record AreSets (j : Journal) (due unended : List ℕ) : Type 0 where
  pub each_due : (t : ℕ) → is_task j.graph t → IsRight j due t
  pub none_due : (t : ℕ) → length j.graph.tasks ≤ t → is_set due t ≡ false
  pub each_open : (t : ℕ) → is_task j.graph t → IsOpenRight j unended t
  pub none_open : (t : ℕ) → length j.graph.tasks ≤ t → is_set unended t ≡ false

-- what is kept beside the run
pub record IsIndexed (j : Journal) (due unended : List ℕ) (waiters owners : List (Vec TaskId Global)) : Type 0 where
  pub sets : AreSets j due unended
  pub told : AreTold j.graph waiters owners
