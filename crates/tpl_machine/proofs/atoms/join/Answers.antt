use Rattle.std.proofs.Common.{arith}
use Rattle.tpl_run.proofs.GraphLemmas.{mem_at}
use Rattle.tpl_machine.proofs.atoms.join.Goals as goal

pub add-requires-clause-below : goal.add-requires-clause-below
add-requires-clause-below c =
    omega (arith, c.loop-task.invariant.capacity, c.requires.below _ (mem_at c.args.more.now c.loop-task.task-index (record { 0 = 0 }) c.loop-task-test.true))
