use Rattle.std.proofs.Common.{◌+◌, ◌*◌}
use Rattle.tpl_analyser.proofs.search.+search.Given as goal

abbrev pub decreases-find : goal.decreases-find
decreases-find over l = 4 * l.reach.splits + 4

abbrev pub decreases-split : goal.decreases-split
decreases-split over l = 4 * l.reach.splits + 3

abbrev pub decreases-by_split : goal.decreases-by_split
decreases-by_split over l = 4 * l.reach.splits + 2

abbrev pub decreases-by_input : goal.decreases-by_input
decreases-by_input over l = 4 * l.reach.splits + 1

abbrev pub decreases-by_end : goal.decreases-by_end
decreases-by_end over l = 4 * l.reach.splits + 1

abbrev pub decreases-by_winner : goal.decreases-by_winner
decreases-by_winner over l = 4 * l.reach.splits + 1
