use Rattle.std.proofs.Common.{◌≡◌, true, refl, arith}
use Rattle.tpl_audit.proofs.HoldsLemmas.{EndedBefore, parent_before, walk_on, walk_ends, walk_stops}
use Rattle.tpl_audit.proofs.run.settled_before.Goals as goal

pub loop-at-smaller : goal.loop-at-smaller
loop-at-smaller g c =
    let j = g.C.Core.journal c.args.core.now in
    parent_before j.graph c.loop-at.at.0 c.in-Some.parent.0 c.run_law.ensures.graph.graph c.loop-at.invariant.task c.in-Some.ensures.some.1

pub loop-at-preserved : goal.loop-at-preserved
loop-at-preserved g c =
    let j = g.C.Core.journal c.args.core.now in
    let test = c.loop-at-test.true in
    let late : EndedBefore j.graph j.inputs j.events c.args.place c.loop-at.at.0 → ⊥ = λ e. let yes : c.ended_before.result ≡ true = c.ended_before.ensures.1 e in first_of (cc, grind arith) in
    walk_on j.graph j.inputs j.events c.args.place c.args.task.0 c.loop-at.at.0 c.in-Some.parent.0 c.run_law.ensures.graph.graph late c.in-Some.ensures.some.0 c.in-Some.ensures.some.1 c.loop-at.invariant

pub returns-in-None : goal.returns-in-None
returns-in-None g c =
    let j = g.C.Core.journal c.args.core.now in
    let test = c.loop-at-test.true in
    let late : EndedBefore j.graph j.inputs j.events c.args.place c.loop-at.at.0 → ⊥ = λ e. let yes : c.ended_before.result ≡ true = c.ended_before.ensures.1 e in first_of (cc, grind arith) in
    (λ e. absurd (cc), λ s. absurd (walk_stops j.graph j.inputs j.events c.args.place c.args.task.0 c.loop-at.at.0 late c.in-None.ensures.none c.loop-at.invariant s))

pub returns : goal.returns
returns g c =
    let j = g.C.Core.journal c.args.core.now in
    let test = c.loop-at-test.false in
    let yes : c.ended_before.result ≡ true = first_of (cc, grind arith) in
    (λ e. walk_ends j.graph j.inputs j.events c.args.place c.args.task.0 c.loop-at.at.0 (c.ended_before.ensures.0 yes) c.loop-at.invariant, λ s. refl)
