use Rattle.std.proofs.Common.{◌≡◌, ℕ, ◌||◌, drop, map}
use Rattle.tpl_model.specs.Members.{mem}
use Rattle.tpl_draft.specs.Ids.{task_number}
use Rattle.tpl_machine.proofs.gather.add_all.Given as goal

abbrev pub invariant-loop-task : goal.invariant-loop-task
invariant-loop-task l = (x : ℕ) → (mem x (map task_number (drop l.task-index l.tasks)) || mem x l.set) ≡ (mem x (map task_number l.tasks) || mem x l.initial.set)
