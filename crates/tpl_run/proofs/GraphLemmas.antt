-- What a valid graph names it has.
use Rattle.std.proofs.Common.{◌≡◌, ℕ, zero, suc, ◌<◌, true, List, [], ◌∷◌, length, map, get_or, refl, arith}
use Rattle.tpl_model.proofs.MemberLemmas.{mem_there}
use Rattle.tpl_model.specs.declared.ids.TaskId.{TaskId}
use Rattle.tpl_model.specs.Members.{mem}
use Rattle.tpl_model.specs.Graph.{TaskGraph, attached, is_task}
use Rattle.tpl_model.specs.Valid.{IsGraph}
use Rattle.tpl_draft.specs.Ids.{task_number}
use Rattle.tpl_laws.proofs.Basics.{mem_here}
use Rattle.tpl_laws.proofs.Settling.{child_task, attached_child}

pub attached_within : (g : TaskGraph) (p c : ℕ) → IsGraph g → mem c (attached g p) ≡ true → is_task g c
attached_within g p c valid m = child_task g p c valid (attached_child g p c m)

-- an item of a list of tasks
pub mem_at : (xs : List TaskId) (i : ℕ) (d : TaskId) → i < length xs → mem (get_or xs i d).0 (map task_number xs) ≡ true
mem_at [] i d lt = absurd (omega arith)
mem_at (x ∷ xs) zero d lt = mem_here x.0 x.0 (map task_number xs) refl
mem_at (x ∷ xs) (suc i) d lt = mem_there (get_or xs i d).0 x.0 (map task_number xs) (mem_at xs i d (omega arith))
