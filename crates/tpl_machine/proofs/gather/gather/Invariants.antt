use Rattle.tpl_machine.proofs.GatherLemmas.{GatheredSoFar}
use Rattle.tpl_machine.proofs.gather.gather.Given as goal

abbrev pub invariant-loop-task : goal.invariant-loop-task
invariant-loop-task l = GatheredSoFar l.initial.list l.list l.members l.rows l.tasks l.task-index
