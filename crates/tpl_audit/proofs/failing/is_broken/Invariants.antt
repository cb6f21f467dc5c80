use Rattle.std.proofs.Common.{◌≡◌, drop}
use Rattle.tpl_laws.specs.Failing as law
use Rattle.tpl_audit.specs.Watching.{noted_of}
use Rattle.tpl_audit.proofs.failing.is_broken.Given as goal

abbrev pub invariant-loop-one : goal.invariant-loop-one
invariant-loop-one g l =
    let j = g.C.Core.journal l.core in
    law.is_broken j.graph j.inputs j.events (noted_of l.watch.asked l.watch.failed) l.given l.place ≡ law.is_broken j.graph j.inputs j.events (noted_of l.watch.asked l.watch.failed) (drop l.one-index l.given) l.place
