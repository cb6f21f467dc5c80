use Rattle.tpl_checker.specs.Assumptions.{assumed_of}
use Rattle.tpl_checker.specs.Bodies.{AreFirstBodies}
use Rattle.tpl_model.specs.Certificate.{plain}
use Rattle.tpl_checker.proofs.bodies.Bodies.of_leaf.Given as goal

abbrev pub invariant-loop-task : goal.invariant-loop-task
invariant-loop-task l = AreFirstBodies l.graph.graph (assumed_of l.assumed) (plain l.rows) l.task l.bodies
