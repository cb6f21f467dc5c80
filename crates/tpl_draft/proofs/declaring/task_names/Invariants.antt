use Rattle.std.proofs.Common.{◌≡◌, map, take}
use Rattle.std.specs.Prelude.{string_bytes}
use Rattle.tpl_draft.proofs.declaring.task_names.Given as goal

abbrev pub invariant-loop-task : goal.invariant-loop-task
invariant-loop-task l = map string_bytes l.names.items ≡ map (λ x. string_bytes x.name) (take l.task-index l.tasks)
