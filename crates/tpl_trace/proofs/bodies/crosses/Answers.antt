use Rattle.std.proofs.Common.{◌∙◌}
use Rattle.std.proofs.Math.Numerals.{add-one}
use Rattle.tpl_trace.proofs.CrossingLemmas.{crosses_beyond, crosses_here}
use Rattle.tpl_trace.proofs.bodies.crosses.Goals as goal

pub returns-then-begins : goal.returns-then-begins
returns-then-begins c =
    rw add-one at c.outlives.ensures ∙ crosses_here c.args.actor c.args.task.0 c.args.events.now c.loop-at.at _ c.begins.result _ c.loop-at-test.true c.begins.ensures c.if-begins.true c.loop-at.invariant

pub loop-at-preserved : goal.loop-at-preserved
loop-at-preserved c =
    rw add-one (crosses_beyond c.args.actor c.args.task.0 c.args.events.now c.loop-at.at _ c.begins.result _ c.loop-at-test.true c.begins.ensures c.if-begins.false c.loop-at.invariant)
