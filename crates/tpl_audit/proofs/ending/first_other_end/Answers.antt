use Rattle.std.proofs.Common.{◌+◌, sym, subst, take}
use Rattle.tpl_audit.specs.Ending.{FirstOtherEnd}
use Rattle.tpl_audit.proofs.EndLemmas.{one_more}
use Rattle.tpl_audit.proofs.ending.first_other_end.Goals as goal

pub loop-task-preserved : goal.loop-task-preserved
loop-task-preserved g c =
    let j = g.C.Core.journal c.args.core.now in
    let i = c.loop-task.task-index in
    subst (FirstOtherEnd j.graph j.inputs j.events (take (i + 1) c.args.ended.now)) (sym c.first_of-found.ensures)
    (one_more j.graph j.inputs j.events c.args.ended.now i _ c.loop-task.found c.other_end.result c.loop-task-test.true c.loop-task.invariant c.other_end.ensures)
