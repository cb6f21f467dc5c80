use Rattle.std.proofs.Common.{sym, ◌∙◌}
use Rattle.std.proofs.lemmas.Bool.{eqb-true}
use Rattle.tpl_model.proofs.Levels.{settle_step}
use Rattle.tpl_model.proofs.cursor.settled.Goals as goal

pub loop-depth-preserved : goal.loop-depth-preserved
loop-depth-preserved c =
    settle_step c.args.levels.now c.loop-depth.depth c.args.depth c.index-levels-depth.result c.requires c.loop-depth.invariant c.loop-depth-test.true c.index-levels-depth.is (eqb-true _ 0 (sym c.is_empty.ensures ∙ c.if-not-is_empty.false))
