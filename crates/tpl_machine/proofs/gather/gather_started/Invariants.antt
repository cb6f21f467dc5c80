use Rattle.tpl_machine.proofs.GatherLemmas.{StartedSoFar}
use Rattle.tpl_machine.proofs.gather.gather_started.Given as goal

abbrev pub invariant-loop-child : goal.invariant-loop-child
invariant-loop-child l = StartedSoFar l.initial.list l.list l.members l.rows l.started l.children l.child-index
