use Rattle.std.proofs.Common.{◌+◌, ◌*◌, max}
use Rattle.tpl_trees.specs.Heights.{height}
use Rattle.tpl_analyser.proofs.plan.+grown.Given as goal

abbrev pub decreases-grown : goal.decreases-grown
decreases-grown l = 2 * height l.plan.now

abbrev pub decreases-grown_by_input : goal.decreases-grown_by_input
decreases-grown_by_input l = 2 * max (height l.yes.now) (height l.no.now) + 1

abbrev pub decreases-grown_by_end : goal.decreases-grown_by_end
decreases-grown_by_end l = 2 * max (height l.ran.now) (max (height l.canceled.now) (height l.faulted.now)) + 1
