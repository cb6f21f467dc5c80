use Rattle.std.proofs.Common.{◌≡◌, length, arith}
use Rattle.tpl_draw.specs.Picture.{task_lines}
use Rattle.tpl_draw.proofs.AddedLemmas.{below_added}
use Rattle.tpl_draw.proofs.draw.add_tasks.Goals as goal

pub loop-number-preserved : goal.loop-number-preserved
loop-number-preserved c =
    below_added (task_lines c.args.language c.args.graph.now c.args.shown.now) c.loop-number.number _ _ _ c.loop-number.invariant c.in_ok-add_task.ensures

pub returns : goal.returns
returns c =
    let e : c.loop-number.number ≡ length c.args.graph.now.graph.tasks = omega arith in
    rw (← e) c.loop-number.invariant
