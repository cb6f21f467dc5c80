use Rattle.std.proofs.Common.{map}
use Rattle.tpl_graph.proofs.SameLemmas.{SameSoFar}
use Rattle.tpl_graph.proofs.same.same_lists.Given as goal

abbrev pub invariant-loop-i : goal.invariant-loop-i
invariant-loop-i g l = SameSoFar (map g.T.Same.shown l.left) (map g.T.Same.shown l.right) l.i
