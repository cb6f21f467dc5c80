use Rattle.tpl_checker.proofs.SettledLemmas.{AfterSome}
use Rattle.tpl_model.specs.Certificate.{plain}
use Rattle.tpl_checker.proofs.past.settled_after_some.Given as goal

abbrev pub invariant-loop-task : goal.invariant-loop-task
invariant-loop-task l = AfterSome (plain l.rows) l.tasks l.task-index l.settled
