use Rattle.std.proofs.Common.{◌≡◌, ◌&&◌, drop, length, map}
use Rattle.tpl_model.specs.declared.finals.Final.TheVariants.{Faulted}
use Rattle.tpl_model.specs.Finals.{has}
use Rattle.tpl_model.specs.Members.{mem}
use Rattle.tpl_model.specs.Graph.{some_in}
use Rattle.tpl_model.specs.Certificate.{row, plain}
use Rattle.tpl_draft.specs.Ids.{task_number}
use Rattle.tpl_graph.specs.Roles.{AreTasks}
use Rattle.tpl_checker.proofs.ends.some_faults.Given as goal

abbrev pub invariant-loop-task : goal.invariant-loop-task
invariant-loop-task l =
    AreTasks (length (plain l.rows)) (drop l.task-index l.tasks)
    × (some_in (λ c. mem c l.started && has (row (plain l.rows) c).ends Faulted) (map task_number l.tasks) ≡ some_in (λ c. mem c l.started && has (row (plain l.rows) c).ends Faulted) (map task_number (drop l.task-index l.tasks)))
