use Rattle.std.proofs.Common.{◌&&◌, ap, ◌∙◌}
use Rattle.tpl_model.specs.Members.{mem}
use Rattle.tpl_checker.proofs.SettledLemmas.{each_step}
use Rattle.tpl_model.specs.Certificate.{plain}
use Rattle.tpl_checker.proofs.past.settled_after_each.Goals as goal

pub loop-task-preserved : goal.loop-task-preserved
loop-task-preserved c =
    each_step (plain c.args.rows.now) c.args.tasks.now c.args.set.now c.loop-task.task-index c.loop-task.settled c.intersection-settled.result _ c.loop-task-test.true c.loop-task.invariant
    (λ x. c.intersection-settled.ensures.members x ∙ ap (λ z. mem x c.loop-task.settled && z) (c.settled_after.ensures x))
