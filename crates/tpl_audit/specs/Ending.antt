-- Whether tasks ended as is said of them.
use Rattle.std.specs.Prelude.{◌≡◌, ◌<◌, Bool, Option, Some, None, List, nat_lt, if◌then◌else◌}
use Rattle.std.specs.List.{All, Contains}
use Rattle.tpl_model.specs.declared.finals.Final.{Final}
use Rattle.tpl_model.specs.declared.ids.TaskId.{TaskId}
use Rattle.tpl_model.specs.Graph.{TaskGraph, is_task}
use Rattle.tpl_model.specs.Rules.{final, status}
use Rattle.tpl_model.specs.declared.event.Event.{Event}
use Rattle.tpl_audit.specs.declared.verdict.OtherEnd.{OtherEnd}

-- the tasks are the graph's
abbrev pub AreTasksOf : TaskGraph → List (TaskId × Final) → Type 0
AreTasksOf g ended = All (λ said. is_task g said.0.0) ended

-- the task ended as is said of it
abbrev pub EndsSo : TaskGraph → List Bool → List Event → TaskId × Final → Type 0
EndsSo g v h said = final g v h said.0.0 ≡ Some said.1

-- Of this task an end is said that isn't its own, and each task that is declared before it ended as is said of it.
pub record IsOtherEnd (g : TaskGraph) (v : List Bool) (h : List Event) (ended : List (TaskId × Final)) (other : OtherEnd) : Type 0 where
  pub task : is_task g other.task.0
  pub said : Contains ended (other.task, other.said)
  pub differs : EndsSo g v h (other.task, other.said) → ⊥
  pub stands : other.status ≡ status g v h other.task.0
  pub earlier : All (λ said. said.0.0 < other.task.0 → EndsSo g v h said) ended

-- the first task in declared order that has not ended as is said of it; none where each has
abbrev pub FirstOtherEnd : TaskGraph → List Bool → List Event → List (TaskId × Final) → Option OtherEnd → Type 0
FirstOtherEnd g v h ended None = All (EndsSo g v h) ended
FirstOtherEnd g v h ended (Some other) = IsOtherEnd g v h ended other

-- of two such tasks the one that is declared first
abbrev pub first_of : Option OtherEnd → Option OtherEnd → Option OtherEnd
first_of found None = found
first_of None (Some other) = Some other
first_of (Some one) (Some other) = if nat_lt other.task.0 one.task.0 then Some other else Some one
