use Rattle.std.proofs.Common.{take, flat_map}
use Rattle.tpl_model.specs.declared.ids.TaskId.{TaskId}
use Rattle.tpl_journal.specs.ReportText.{exception_between}
use Rattle.tpl_journal.specs.Writing.{Writes}
use Rattle.tpl_journal.proofs.report_lines.put_exceptions.Given as goal

abbrev pub invariant-loop-task : goal.invariant-loop-task
invariant-loop-task g l =
    Writes g.W.Write.contents l.initial.to l.to (flat_map (λ (t : TaskId). exception_between l.graph.names l.labels l.before l.behind t.0) (take l.task-index l.tasks))
