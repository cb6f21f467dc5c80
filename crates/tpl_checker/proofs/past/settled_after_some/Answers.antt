use Rattle.std.proofs.Common.{◌||◌, ap, ◌∙◌}
use Rattle.tpl_model.specs.Members.{mem}
use Rattle.tpl_checker.proofs.SettledLemmas.{some_step}
use Rattle.tpl_model.specs.Certificate.{plain}
use Rattle.tpl_checker.proofs.past.settled_after_some.Goals as goal

pub loop-task-preserved : goal.loop-task-preserved
loop-task-preserved c =
    some_step (plain c.args.rows.now) c.args.tasks.now c.loop-task.task-index c.loop-task.settled c.union-settled.result _ c.loop-task-test.true c.loop-task.invariant
    (λ x. c.union-settled.ensures.members x ∙ ap (λ z. mem x c.loop-task.settled || z) (c.settled_after.ensures x))
