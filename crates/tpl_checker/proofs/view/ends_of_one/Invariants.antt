use Rattle.std.proofs.Common.{◌≡◌, ◌||◌, drop, length, map}
use Rattle.tpl_model.specs.declared.finals.Final.{Final}
use Rattle.tpl_model.specs.Finals.{has}
use Rattle.tpl_model.specs.Certificate.{one_ends, plain}
use Rattle.tpl_draft.specs.Ids.{task_number}
use Rattle.tpl_graph.specs.Roles.{AreTasks}
use Rattle.tpl_checker.proofs.view.ends_of_one.Given as goal

abbrev pub invariant-loop-task : goal.invariant-loop-task
invariant-loop-task l =
    AreTasks (length (plain l.rows)) (drop l.task-index l.tasks)
    × ((f : Final) → (has l.finals f || one_ends (map task_number (drop l.task-index l.tasks)) (plain l.rows) f) ≡ one_ends (map task_number l.tasks) (plain l.rows) f)
