use Rattle.tpl_checker.proofs.SettledLemmas.{AfterEach}
use Rattle.tpl_model.specs.Certificate.{plain}
use Rattle.tpl_checker.proofs.past.settled_after_each.Given as goal

abbrev pub invariant-loop-task : goal.invariant-loop-task
invariant-loop-task l = AfterEach (plain l.rows) l.tasks l.set l.task-index l.settled
