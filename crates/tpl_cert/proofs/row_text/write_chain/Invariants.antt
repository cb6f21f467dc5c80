use Rattle.std.proofs.Common.{◌≡◌, map, take, drop, ◌++◌, true}
use Rattle.std.specs.List.{list_all}
use Rattle.tpl_draft.specs.Ids.{task_number}
use Rattle.tpl_cert.specs.Written.{is_id}
use Rattle.tpl_cert.proofs.Tokens.{names_left}
use Rattle.tpl_cert.proofs.row_text.write_chain.Given as goal

abbrev pub invariant-loop-task : goal.invariant-loop-task
invariant-loop-task l = (list_all (is_id l.graph.names.tasks) (map task_number (take l.task-index l.chain)) ≡ true)
    × (l.out.before ≡ l.initial.out.before)
    × (l.out.tokens ++ names_left l.graph.names.tasks (map task_number (drop l.task-index l.chain)) ≡ l.initial.out.tokens ++ names_left l.graph.names.tasks (map task_number l.chain))
