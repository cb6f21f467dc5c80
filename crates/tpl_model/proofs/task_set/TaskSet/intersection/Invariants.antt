use Rattle.std.proofs.Common.{bit_and}
use Rattle.tpl_model.proofs.BitSets.{Filled}
use Rattle.tpl_model.proofs.task_set.TaskSet.intersection.Given as goal

abbrev pub invariant-loop-i : goal.invariant-loop-i
invariant-loop-i l = Filled bit_and l.self-inside.words l.other-inside.words l.words l.i
