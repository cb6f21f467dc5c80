use Rattle.std.proofs.Common.{refl, sym}
use Rattle.tpl_audit.proofs.HoldsLemmas.{none_begun, settled_by_place}
use Rattle.tpl_audit.proofs.run.settled_at_begin.Goals as goal

pub returns-in-Some : goal.returns-in-Some
returns-in-Some g c =
    let j = g.C.Core.journal c.args.core.now in
    let law = settled_by_place j.graph j.inputs j.events c.args.first.0 c.args.second.0 c.in-Some.place c.run_law.ensures.graph.graph c.run_law.ensures.run c.settled_before_its_begin.ensures (sym c.in-Some.ensures) in
    (λ e. law.1 (c.settled_before.ensures.0 e), λ s. c.settled_before.ensures.1 (law.0 s))

pub returns-in-None : goal.returns-in-None
returns-in-None g c =
    let j = g.C.Core.journal c.args.core.now in
    (λ e. c.settled_without_begin.ensures j.graph j.inputs j.events c.args.first.0 c.args.second.0 (none_begun j.events c.args.second.0 (sym c.in-None.ensures)), λ s. refl)
