use Rattle.std.proofs.Common.{◌<◌, ◌+◌, length, take, sym, subst}
use Rattle.tpl_laws.specs.Failing as law
use Rattle.tpl_audit.specs.Audit.{FirstFails}
use Rattle.tpl_audit.proofs.FailLemmas.{FailsAt, by_places, found_more, all_found}
use Rattle.tpl_audit.proofs.failing.first_failure.Goals as goal

pub loop-i-preserved : goal.loop-i-preserved
loop-i-preserved g c events e =
    let j = g.C.Core.journal c.args.core.now in
    let i = c.loop-i.i in
    let x = c.index-claims-i.result in
    let o = c.failure_of.result in
    let lt : i < length c.args.claims.now = c.loop-i-test.true in
    let told = subst (λ h. law.IsFirstFailure j.graph j.inputs h x o) e c.failure_of.ensures in
    let here = by_places j.graph j.inputs events x o c.holds_is_right.ensures c.run_law.ensures.graph.graph told in
    subst (FirstFails j.graph j.inputs events (take (i + 1) c.args.claims.now)) (sym c.better-found.ensures)
    (found_more j.graph j.inputs events c.args.claims.now i x lt c.loop-i.found o (c.loop-i.invariant events e)
    (subst (λ z. FailsAt j.graph j.inputs events z o) c.index-claims-i.is here))

pub returns : goal.returns
returns g c events e =
    let j = g.C.Core.journal c.args.core.now in
    all_found j.graph j.inputs events c.args.claims.now c.loop-i.i c.loop-i.found c.loop-i-test.false (c.loop-i.invariant events e)
