use Rattle.std.proofs.Common.{bit_or}
use Rattle.tpl_model.proofs.BitSets.{Filled}
use Rattle.tpl_model.proofs.task_set.TaskSet.union.Given as goal

abbrev pub invariant-loop-i : goal.invariant-loop-i
invariant-loop-i l = Filled bit_or l.self-inside.words l.other-inside.words l.words l.i
