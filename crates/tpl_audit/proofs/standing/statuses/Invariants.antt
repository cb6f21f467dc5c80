use Rattle.std.proofs.Common.{◌≡◌}
use Rattle.tpl_audit.specs.Standing.{first_statuses}
use Rattle.tpl_audit.proofs.standing.statuses.Given as goal

abbrev pub invariant-loop-number : goal.invariant-loop-number
invariant-loop-number g l =
    let j = g.C.Core.journal l.core in
    l.found.items ≡ first_statuses j.graph j.inputs j.events l.number
