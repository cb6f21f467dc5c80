use Rattle.std.proofs.Common.{length}
use Rattle.tpl_graph.proofs.fits.+have_body.Given as goal

abbrev pub decreases-have_body : goal.decreases-have_body
decreases-have_body l = length l.tasks.now
