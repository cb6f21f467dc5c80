use Rattle.std.proofs.Common.{take}
use Rattle.tpl_audit.specs.Ending.{FirstOtherEnd}
use Rattle.tpl_audit.proofs.ending.first_other_end.Given as goal

abbrev pub invariant-loop-task : goal.invariant-loop-task
invariant-loop-task g l =
    let j = g.C.Core.journal l.core in
    FirstOtherEnd j.graph j.inputs j.events (take l.task-index l.ended) l.found
