use Rattle.std.proofs.Common.{◌≡◌, ℕ, true, map, take}
use Rattle.tpl_model.specs.Members.{mem}
use Rattle.tpl_model.specs.Graph.{is_task}
use Rattle.tpl_draft.specs.Ids.{task_number}
use Rattle.tpl_fast.specs.Due.{IsRight, Keeps}
use Rattle.tpl_fast.proofs.tell.refresh_each.Given as goal

abbrev pub invariant-loop-task : goal.invariant-loop-task
invariant-loop-task l = record {
  told : (t : ℕ) → mem t (map task_number (take l.task-index l.tasks)) ≡ true → is_task l.state.graph t → IsRight l.state l.due t;
  kept : Keeps l.state (λ t s. IsRight l.state s t) l.fn.due l.due;
}
