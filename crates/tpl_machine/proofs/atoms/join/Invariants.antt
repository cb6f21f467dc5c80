use Rattle.tpl_machine.proofs.AtomLemmas.{JoinedSoFar}
use Rattle.tpl_machine.proofs.atoms.join.Given as goal

abbrev pub invariant-loop-task : goal.invariant-loop-task
invariant-loop-task l = JoinedSoFar l.initial.tasks l.tasks l.members l.more l.task-index
