use Rattle.std.proofs.Common.{◌+◌, ◌*◌, max}
use Rattle.tpl_trees.specs.Heights.{height}
use Rattle.tpl_analyser.proofs.written.+written.Given as goal

abbrev pub decreases-with_rows : goal.decreases-with_rows
decreases-with_rows l = 2 * height l.plan.now

abbrev pub decreases-by_input : goal.decreases-by_input
decreases-by_input l = 2 * max (height l.yes.now) (height l.no.now) + 1

abbrev pub decreases-by_end : goal.decreases-by_end
decreases-by_end l = 2 * max (height l.ran.now) (max (height l.canceled.now) (height l.faulted.now)) + 1

abbrev pub decreases-by_winner : goal.decreases-by_winner
decreases-by_winner l = 2 * max (height l.yes.now) (height l.no.now) + 1
