use Rattle.std.proofs.Common.{◌≡◌, length, arith}
use Rattle.tpl_model.specs.Certificate.{row, plain}
use Rattle.tpl_draw.specs.Endings.{no_ends}
use Rattle.tpl_draw.proofs.EachTask.{joins_each}
use Rattle.tpl_draw.proofs.token_ending.ends_in_rows.Goals as goal

pub returns : goal.returns
returns c =
    let e : c.loop-task.task ≡ length c.args.others.now = omega arith in
    joins_each (λ t. (row (plain c.args.rows.now) t).ends) c.args.others.now c.loop-task.found.items c.loop-task.task no_ends e c.loop-task.invariant
