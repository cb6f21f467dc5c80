use Rattle.std.proofs.Common.{◌≡◌, drop, map}
use Rattle.tpl_draft.specs.Ids.{task_number}
use Rattle.tpl_checker.specs.Assumptions.{assumed_of}
use Rattle.tpl_graph.specs.Roles.{AreTasks}
use Rattle.tpl_token_leaf.specs.Narrowed.{with_all_kept}
use Rattle.tpl_token_leaf.proofs.narrowing.keep_all.Given as goal

abbrev pub invariant-loop-task : goal.invariant-loop-task
invariant-loop-task l =
    AreTasks 1024 (drop l.task-index l.tasks)
    × (with_all_kept (assumed_of l.assumed) (map task_number (drop l.task-index l.tasks)) l.ends ≡ with_all_kept (assumed_of l.initial.assumed) (map task_number l.tasks) l.ends)
