use Rattle.std.proofs.Common.{◌≡◌, drop, map}
use Rattle.tpl_model.specs.Facts.{ending}
use Rattle.tpl_model.specs.Rules.{some_ended}
use Rattle.tpl_draft.specs.Ids.{task_number}
use Rattle.tpl_run.proofs.ends.some_ended.Given as goal

abbrev pub invariant-loop-task : goal.invariant-loop-task
invariant-loop-task g l =
    let j = g.R.Readers.journal l.run in
    some_ended (map task_number (drop l.task-index l.tasks)) (ending j.graph j.inputs j.events)
    ≡ some_ended (map task_number l.tasks) (ending j.graph j.inputs j.events)
