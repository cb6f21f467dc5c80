use Rattle.std.proofs.Common.{◌≡◌}
use Rattle.tpl_model.proofs.BitSets.{EmptyBelow}
use Rattle.tpl_model.proofs.task_set.TaskSet.pop_first.Given as goal

abbrev pub invariant-loop-i : goal.invariant-loop-i
invariant-loop-i l = record { same : l.self-inside.words ≡ l.initial.self-inside.words; empty : EmptyBelow l.self-inside.words l.i }
