use Rattle.tpl_model.proofs.Levels.{SettledSoFar}
use Rattle.tpl_model.proofs.cursor.settled.Given as goal

abbrev pub invariant-loop-depth : goal.invariant-loop-depth
invariant-loop-depth l = SettledSoFar l.levels l.depth l.fn.depth

abbrev pub decreases-loop-depth : goal.decreases-loop-depth
decreases-loop-depth l = l.depth
