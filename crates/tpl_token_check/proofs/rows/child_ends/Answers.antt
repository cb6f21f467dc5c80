use Rattle.std.proofs.Common.{ap, ◌∙◌}
use Rattle.tpl_token_leaf.specs.Leaf.{row_end}
use Rattle.tpl_token_check.proofs.TokenTreeLemmas.{one_more_end}
use Rattle.tpl_token_check.proofs.rows.child_ends.Goals as goal

pub loop-row-preserved : goal.loop-row-preserved
loop-row-preserved c =
    rw c.in_ok-push.ensures.items
    (one_more_end c.args.rows.now c.loop-row.ends.items c.loop-row.row-index c.row-item.result c.end_of_row.result c.loop-row-test.true c.loop-row.invariant (c.end_of_row.ensures ∙ ap row_end c.row-item.is))
