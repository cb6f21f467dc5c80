use Rattle.std.proofs.Common.{◌+◌, ◌*◌}
use Rattle.tpl_reasons.proofs.misread.walk.Walk.+walk.Given as goal

abbrev pub decreases-visit : goal.decreases-visit
decreases-visit l = 2 * l.levels

abbrev pub decreases-visit_list : goal.decreases-visit_list
decreases-visit_list l = 2 * l.levels + 1

abbrev pub decreases-visit_members : goal.decreases-visit_members
decreases-visit_members l = 2 * l.levels + 1
