use Rattle.std.proofs.Common.{◌≡◌, map, ◌++◌, true}
use Rattle.std.specs.List.{list_all}
use Rattle.tpl_draft.specs.Ids.{task_number}
use Rattle.tpl_cert.specs.Written.{is_id}
use Rattle.tpl_cert.proofs.Tokens.{names_left}
use Rattle.tpl_cert.proofs.row_text.write_set.Given as goal

abbrev pub invariant-loop-task : goal.invariant-loop-task
invariant-loop-task l = (map task_number l.yielded ++ l.task-iterator ≡ l.set)
    × (list_all (is_id l.graph.names.tasks) (map task_number l.yielded) ≡ true)
    × (l.out.before ≡ l.initial.out.before)
    × (l.out.tokens ++ names_left l.graph.names.tasks l.task-iterator ≡ l.initial.out.tokens ++ names_left l.graph.names.tasks l.set)
