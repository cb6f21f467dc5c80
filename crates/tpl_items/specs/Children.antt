-- The children that the bodies of tasks start.
use Rattle.std.specs.Prelude.{◌≡◌, ℕ, zero, suc, ◌<◌, if◌then◌else◌, List, [], ◌∷◌, ◌++◌, length, slice_index_or}
use Rattle.tpl_model.specs.Members.{mem}
use Rattle.tpl_model.specs.Statements.{starts}
use Rattle.tpl_model.specs.Graph.{TaskGraph, body}

-- the children that p's body starts among the tasks below n, in the order of their numbers
abbrev pub children_below : TaskGraph → ℕ → ℕ → List ℕ
children_below g p zero = []
children_below g p (suc n) = children_below g p n ++ (if mem n (starts (body g p)) then n ∷ [] else [])

-- by task, its children among the tasks below n
pub record AreChildrenBelow (g : TaskGraph) (n : ℕ) (lists : List (List ℕ)) : Type 0 where
  pub long : length lists ≡ length g.tasks
  pub each : (p : ℕ) → p < length g.tasks → slice_index_or lists p [] ≡ children_below g p n

-- by task, its children
abbrev pub AreChildren : TaskGraph → List (List ℕ) → Type 0
AreChildren g lists = AreChildrenBelow g (length g.tasks) lists
