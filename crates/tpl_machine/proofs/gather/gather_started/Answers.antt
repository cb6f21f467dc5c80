use Rattle.tpl_machine.proofs.GatherLemmas.{started_step}
use Rattle.tpl_machine.proofs.gather.gather_started.Goals as goal

pub loop-child-preserved : goal.loop-child-preserved
loop-child-preserved c =
    started_step _ c.loop-child.list _ _ _ _ _ c.args.children.now c.loop-child.child-index (record { 0 = 0 }) c.loop-child-test.true c.loop-child.invariant c.gather_child.ensures.items c.gather_child.ensures.members c.gather_child.ensures.capacity
