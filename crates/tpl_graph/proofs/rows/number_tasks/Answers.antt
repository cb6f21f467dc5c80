use Rattle.tpl_draft.specs.Numbered.{task_in}
use Rattle.tpl_draft.specs.SeenTasks.{task_of}
use Rattle.tpl_draft.specs.Tables.{seen}
use Rattle.tpl_draft.proofs.NamesLemmas.{all_named, map_here}
use Rattle.tpl_graph.proofs.rows.number_tasks.Goals as goal

pub number_task-requires-clause-small : goal.number_task-requires-clause-small
number_task-requires-clause-small c =
    c.loop-task.invariant.small _ (task_of c.task-item.result) (map_here task_of _ _ _ c.loop-task-test.true c.task-item.is)

pub returns : goal.returns
returns c = all_named task_of (task_in (seen c.args.tables.now)) _ _ _ c.loop-task-test.false c.loop-task.invariant.made
