use Rattle.tpl_checker.proofs.BelowLemmas.{BelowSoFar}
use Rattle.tpl_checker.proofs.below.tasks_below.Given as goal

abbrev pub invariant-loop-child : goal.invariant-loop-child
invariant-loop-child l = BelowSoFar l.graph.graph l.task.0 l.child l.found
