use Rattle.std.proofs.Common.{◌≡◌, List, reverse, take}
use Rattle.tpl_model.specs.declared.event.Event.{Event}
use Rattle.tpl_audit.specs.Audit.{FirstFails}
use Rattle.tpl_audit.proofs.failing.first_failure.Given as goal

abbrev pub invariant-loop-i : goal.invariant-loop-i
invariant-loop-i g l =
    let j = g.C.Core.journal l.core in
    (events : List Event) → j.events ≡ reverse events → FirstFails j.graph j.inputs events (take l.i l.claims) l.found
