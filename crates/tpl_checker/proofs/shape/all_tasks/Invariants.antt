use Rattle.std.proofs.Common.{◌≡◌, ℕ, nat_lt}
use Rattle.tpl_model.specs.Members.{mem}
use Rattle.tpl_checker.proofs.shape.all_tasks.Given as goal

abbrev pub invariant-loop-task : goal.invariant-loop-task
invariant-loop-task l = (x : ℕ) → mem x l.all ≡ nat_lt x l.task
