use Rattle.std.proofs.lemmas.Result.{err_from_is_err_and}
use Rattle.tpl_draft.specs.Ids.{task_number}
use Rattle.tpl_cert.specs.Written.{is_id}
use Rattle.tpl_cert.proofs.Ids.{unwritten_all}
use Rattle.tpl_cert.proofs.row_text.write_chain.Goals as goal

pub returns-in_err-write_task : goal.returns-in_err-write_task
returns-in_err-write_task c =
    let p = err_from_is_err_and c.from_residual-in_err-write_task.result c.from_residual-in_err-write_task.ensures.1 in
    rw (p.1, p.2) (unwritten_all (is_id c.args.graph.now.names.tasks) task_number c.args.chain.now c.loop-task.task-index _ c.in_err-write_task.field-0.0 c.loop-task-test.true c.in_err-write_task.ensures)
