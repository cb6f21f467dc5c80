use Rattle.tpl_graph.proofs.SameLemmas.{SameSoFar}
use Rattle.tpl_graph.proofs.same.same_names.Given as goal

abbrev pub invariant-loop-i : goal.invariant-loop-i
invariant-loop-i l = SameSoFar l.left l.right l.i
