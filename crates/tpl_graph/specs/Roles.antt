-- What makes a task ready, with the tasks that it waits for.
use Rattle.std.specs.Prelude.{ℕ, ◌<◌, List, [], ◌∷◌, map}
use Rattle.tpl_model.specs.declared.ids.TaskId.{TaskId}
use Rattle.tpl_model.specs.Graph as graph
use Rattle.tpl_draft.specs.Ids.{task_number}
use Rattle.tpl_graph.specs.declared.role.Role.{Role}
use Rattle.tpl_graph.specs.declared.role.Role.TheVariants.{Root, Child, Then, All, Any}

-- what makes a task ready, without where it lies in memory
abbrev pub kind_in : Role → graph.TaskKind
kind_in Root = graph.Root
kind_in Child = graph.Child
kind_in (Then a) = graph.Continues a.0
kind_in (All args) = graph.WhenAll (map task_number args.now)
kind_in (Any args) = graph.WhenAny (map task_number args.now)

-- each of the tasks is one of the first n
abbrev pub AreTasks : ℕ → List TaskId → Type 0
AreTasks n [] = Unit {0}
AreTasks n (t ∷ ts) = (t.0 < n) × AreTasks n ts

-- the tasks that it waits for are among the first n
abbrev pub AreWithin : ℕ → Role → Type 0
AreWithin n Root = Unit {0}
AreWithin n Child = Unit {0}
AreWithin n (Then a) = a.0 < n
AreWithin n (All args) = AreTasks n args.now
AreWithin n (Any args) = AreTasks n args.now
