use Rattle.tpl_model.proofs.SameLists.{SameSoFar}
use Rattle.tpl_model.proofs.same.+same.Given as goal

abbrev pub invariant-same_body-loop-i : goal.invariant-same_body-loop-i
invariant-same_body-loop-i l = SameSoFar l.left l.right l.i
