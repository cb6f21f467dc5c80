use Rattle.std.proofs.Common.{ℕ, List, sym}
use Rattle.std.proofs.lemmas.List.Folds.{flat_map-map}
use Rattle.tpl_model.specs.declared.ids.TaskId.{TaskId}
use Rattle.tpl_draft.specs.Ids.{task_number}
use Rattle.tpl_journal.specs.ReportText.{exception_between}
use Rattle.tpl_journal.proofs.PartLemmas.{as_text, each_more, each_stops, each_written, nothing_written}
use Rattle.tpl_journal.proofs.report_lines.put_exceptions.Goals as goal

pub loop-task-init : goal.loop-task-init
loop-task-init g c = nothing_written g.W.Write.contents c.args.to.now

pub loop-task-preserved : goal.loop-task-preserved
loop-task-preserved g c =
    each_more g.W.Write.contents (λ (t : TaskId). exception_between c.args.graph.now.names c.args.labels.now c.args.before.now c.args.behind.now t.0) c.args.tasks.now c.loop-task.task-index _ _ _ _ c.loop-task-test.true c.loop-task.invariant c.in_ok-put_exception.ensures.ok

pub returns-in_err-put_exception : goal.returns-in_err-put_exception
returns-in_err-put_exception g c =
    let text : ℕ → List ℕ = exception_between c.args.graph.now.names c.args.labels.now c.args.before.now c.args.behind.now in
    as_text g.W.Write.contents _ _ _ _ _ (sym (flat_map-map text task_number c.args.tasks.now))
    (each_stops g.W.Write.contents (λ (t : TaskId). text t.0) c.args.tasks.now c.loop-task.task-index _ _ _ _ _ _ c.loop-task-test.true c.from_residual.ensures.1 c.loop-task.invariant c.in_err-put_exception.ensures.err)

pub returns : goal.returns
returns g c =
    let text : ℕ → List ℕ = exception_between c.args.graph.now.names c.args.labels.now c.args.before.now c.args.behind.now in
    as_text g.W.Write.contents _ _ _ _ _ (sym (flat_map-map text task_number c.args.tasks.now))
    (each_written g.W.Write.contents (λ (t : TaskId). text t.0) c.args.tasks.now c.loop-task.task-index _ _ c.loop-task-test.false c.loop-task.invariant)
