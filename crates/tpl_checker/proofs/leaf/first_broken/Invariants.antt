use Rattle.std.proofs.Common.{length}
use Rattle.tpl_laws.specs.Verdict.{first_broken}
use Rattle.tpl_checker.specs.Assumptions.{assumed_of}
use Rattle.tpl_checker.proofs.LeafLemmas.{NoneBroken}
use Rattle.tpl_model.specs.Certificate.{plain}
use Rattle.tpl_checker.proofs.leaf.first_broken.Given as goal

abbrev pub invariant-loop-task : goal.invariant-loop-task
invariant-loop-task l = NoneBroken (first_broken l.graph.graph (assumed_of l.assumed) (plain l.rows)) (length l.graph.graph.tasks) l.task
