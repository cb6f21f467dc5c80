use Rattle.std.proofs.Common.{◌<◌, ◌∙◌, length, sym, arith}
use Rattle.tpl_checker.specs.Assumptions.{assumed_of}
use Rattle.tpl_checker.proofs.LeafLemmas.{finds_broken, here_broken, next_unbroken}
use Rattle.tpl_model.specs.Certificate.{plain}
use Rattle.tpl_checker.proofs.leaf.first_broken.Goals as goal

pub returns-in-Some : goal.returns-in-Some
returns-in-Some c =
    let lt : c.loop-task.task < length c.args.graph.now.graph.tasks = omega arith in
    here_broken (finds_broken c.args.graph.now.graph (assumed_of c.args.assumed.now) (plain c.args.rows.now)) c.loop-task.invariant lt c.in-Some.rule (sym c.in-Some.is ∙ c.broken.ensures)

pub loop-task-preserved : goal.loop-task-preserved
loop-task-preserved c =
    let lt : c.loop-task.task < length c.args.graph.now.graph.tasks = omega arith in
    next_unbroken (finds_broken c.args.graph.now.graph (assumed_of c.args.assumed.now) (plain c.args.rows.now)) c.loop-task.invariant lt (sym c.in_default.is ∙ c.broken.ensures)
