use Rattle.std.proofs.Common.{length}
use Rattle.tpl_draw.proofs.token_ending.+ends_in_trees.Given as goal

abbrev pub decreases-ends_in_trees : goal.decreases-ends_in_trees
decreases-ends_in_trees l = length l.claims.now
