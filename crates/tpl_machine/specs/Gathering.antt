-- A list of tasks with the set of its members beside it.
use Rattle.std.specs.Prelude.{◌≡◌, ℕ, ◌≤◌, map, vec_capacity, List}
use Rattle.tpl_model.specs.declared.limits.TheConstants.{MOST_TASKS}
use Rattle.std.specs.declared.vec.Vec.{Vec}
use Rattle.std.specs.declared.alloc.Global.{Global}
use Rattle.tpl_model.specs.declared.ids.TaskId.{TaskId}
use Rattle.tpl_model.specs.Members.{mem}
use Rattle.tpl_draft.specs.Ids.{task_number}
use Rattle.tpl_run.specs.Atoms.{AreAtoms}

-- the list has each task once, room for no more tasks than a set has, and the members of the set
pub record IsBeside (members : List ℕ) (list : Vec TaskId Global) : Type 0 where
  pub atoms : AreAtoms (vec_capacity list) (map task_number list.items)
  pub limit : vec_capacity list ≤ MOST_TASKS
  pub same : (x : ℕ) → mem x members ≡ mem x (map task_number list.items)
