use Rattle.std.proofs.Common.{length}
use Rattle.tpl_graph.proofs.fits.+are_tasks.Given as goal

abbrev pub decreases-are_tasks : goal.decreases-are_tasks
decreases-are_tasks l = length l.tasks.now
