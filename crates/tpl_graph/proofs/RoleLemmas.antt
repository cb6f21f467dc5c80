-- The tasks that a task waits for.
use Rattle.std.proofs.Common.{◌≡◌, ℕ, ◌<◌, List, [], ◌∷◌, length, map, sym, subst, arith}
use Rattle.tpl_model.specs.declared.ids.TaskId.{TaskId}
use Rattle.tpl_model.specs.Graph.{TaskGraph, TaskKind, Root, Child, Continues, WhenAll, WhenAny, is_task}
use Rattle.tpl_model.specs.Valid.{ArePlaced, IsPlaced}
use Rattle.tpl_draft.specs.Ids.{task_number}
use Rattle.tpl_draft.specs.Named.{args_of}
use Rattle.tpl_graph.specs.Roles.{AreTasks}

placed_within : (g : TaskGraph) (t n : ℕ) (ts : List TaskId) → t < n → ArePlaced g t (map task_number ts) → AreTasks n ts
placed_within g t n [] lt p = tt
placed_within g t n (x ∷ xs) lt p = (omega (arith, p.0), placed_within g t n xs lt p.2)

none_within : (n : ℕ) (ts : List TaskId) → map task_number ts ≡ [] → AreTasks n ts
none_within n [] e = tt
none_within n (x ∷ xs) e = absurd (cc)

-- the arguments of a task are tasks
pub args_within : (g : TaskGraph) (t : ℕ) (k : TaskKind) (ts : List TaskId) → is_task g t → IsPlaced g t k → map task_number ts ≡ args_of k → AreTasks (length g.tasks) ts
args_within g t Root ts lt p e = none_within (length g.tasks) ts e
args_within g t Child ts lt p e = none_within (length g.tasks) ts e
args_within g t (Continues a) ts lt p e = none_within (length g.tasks) ts e
args_within g t (WhenAll args) ts lt p e = placed_within g t (length g.tasks) ts lt (subst (λ (xs : List ℕ). ArePlaced g t xs) (sym e) p.0)
args_within g t (WhenAny args) ts lt p e = placed_within g t (length g.tasks) ts lt (subst (λ (xs : List ℕ). ArePlaced g t xs) (sym e) p.0)
