use Rattle.std.proofs.Common.{◌≡◌, map, take}
use Rattle.tpl_draft.specs.Numbered.{AreFew, task_in}
use Rattle.tpl_graph.specs.Rows as rows
use Rattle.tpl_draft.specs.SeenTasks.{task_of}
use Rattle.tpl_graph.specs.Small.{AreSmall}
use Rattle.tpl_draft.specs.Tables.{seen}
use Rattle.tpl_graph.proofs.rows.number_tasks.Given as goal

abbrev pub invariant-loop-task : goal.invariant-loop-task
invariant-loop-task l = record {
  few : AreFew (seen l.tables);
  small : AreSmall (map task_of l.tasks);
  made : map rows.task_of l.made.items ≡ map (λ x. task_in (seen l.tables) (task_of x)) (take l.task-index l.tasks);
}
