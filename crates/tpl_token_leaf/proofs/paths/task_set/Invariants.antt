use Rattle.std.proofs.Common.{◌≡◌, ℕ, ◌||◌, drop, map}
use Rattle.tpl_model.specs.Members.{mem}
use Rattle.tpl_draft.specs.Ids.{task_number}
use Rattle.tpl_graph.specs.Roles.{AreTasks}
use Rattle.tpl_token_leaf.proofs.paths.task_set.Given as goal

abbrev pub invariant-loop-task : goal.invariant-loop-task
invariant-loop-task l =
    AreTasks 1024 (drop l.task-index l.tasks)
    × ((x : ℕ) → (mem x l.set || mem x (map task_number (drop l.task-index l.tasks))) ≡ mem x (map task_number l.tasks))
