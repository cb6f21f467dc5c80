use Rattle.tpl_checker.proofs.Basics.{tasks_left}
use Rattle.tpl_token_leaf.proofs.TaskSets.{one_more_in}
use Rattle.tpl_token_leaf.proofs.paths.task_set.Goals as goal

pub loop-task-preserved : goal.loop-task-preserved
loop-task-preserved c = (
  tasks_left c.args.tasks.now c.loop-task.task-index (record { 0 = 0 }) c.loop-task-test.true 1024 c.loop-task.invariant.0,
  one_more_in c.args.tasks.now c.loop-task.task-index _ c.loop-task.set c.insert.new.self c.loop-task-test.true c.loop-task.invariant.1 c.insert.ensures.members,
)
