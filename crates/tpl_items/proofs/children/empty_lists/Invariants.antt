use Rattle.std.proofs.Common.{◌≡◌, [], map, replicate}
use Rattle.tpl_draft.specs.Ids.{task_number}
use Rattle.tpl_items.proofs.children.empty_lists.Given as goal

abbrev pub invariant-loop-task : goal.invariant-loop-task
invariant-loop-task l = map (λ v. map task_number v.items) l.lists.items ≡ replicate l.task []
