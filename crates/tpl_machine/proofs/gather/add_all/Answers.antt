use Rattle.tpl_run.proofs.GraphLemmas.{mem_at}
use Rattle.tpl_machine.proofs.gather.add_all.Goals as goal

pub insert-requires : goal.insert-requires
insert-requires c = c.requires _ (mem_at c.args.tasks.now c.loop-task.task-index (record { 0 = 0 }) c.loop-task-test.true)
