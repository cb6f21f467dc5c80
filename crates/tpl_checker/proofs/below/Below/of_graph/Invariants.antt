use Rattle.tpl_checker.proofs.BelowLemmas.{SetsSoFar}
use Rattle.tpl_checker.proofs.below.Below.of_graph.Given as goal

abbrev pub invariant-loop-task : goal.invariant-loop-task
invariant-loop-task l = SetsSoFar l.graph.graph l.sets l.task
