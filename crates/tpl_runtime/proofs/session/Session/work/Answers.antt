use Rattle.std.proofs.Common.{◌∙◌, ap, length, refl, subst, sym}
use Rattle.tpl_hall.specs.Stays.{Leaves}
use Rattle.tpl_runtime.specs.Views.{SessionView}
use Rattle.tpl_runtime.proofs.TurnLemmas.{works_on}
use Rattle.tpl_runtime.proofs.session.Session.work.Goals as goal

pub loop-init : goal.loop-init
loop-init g c = record { session = c.self.view_is; actor = refl; stays = record { came = ap length (sym c.mine-came.ensures); on = refl } }

pub loop-preserved-in-Go : goal.loop-preserved-in-Go
loop-preserved-in-Go g c =
    let was = c.loop.kit in
    let took = c.take-brought.new.kit in
    let brought = c.take-brought.ensures in
    let turn = c.in-Go.ensures in
    works_on took c.turns.new.kit _ _ turn.session turn.actor (turn.stays c.args.seat) (works_on was took _ _ brought.session brought.actor (brought.stays c.args.seat) c.loop.invariant)

pub loop-preserved-in-Call : goal.loop-preserved-in-Call
loop-preserved-in-Call g c =
    let was = c.loop.kit in
    let took = c.take-brought.new.kit in
    let brought = c.take-brought.ensures in
    let turn = c.in-Call.ensures in
    works_on took c.turns.new.kit _ _ turn.session turn.actor (turn.stays c.args.seat) (works_on was took _ _ brought.session brought.actor (brought.stays c.args.seat) c.loop.invariant)

pub loop-preserved : goal.loop-preserved
loop-preserved g c =
    let was = c.loop.kit in
    let took = c.take-brought.new.kit in
    let brought = c.take-brought.ensures in
    let turn = c.in-Wait.ensures in
    works_on took c.turns.new.kit _ _ turn.session turn.actor (turn.stays c.args.seat) (works_on was took _ _ brought.session brought.actor (brought.stays c.args.seat) c.loop.invariant)

pub returns-in-Over-clause-actor : goal.returns-in-Over-clause-actor
returns-in-Over-clause-actor g c = c.in-Over.ensures.actor ∙ c.take-brought.ensures.actor ∙ c.loop.invariant.actor

pub returns-in-Over-clause-left : goal.returns-in-Over-clause-left
returns-in-Over-clause-left g c =
    let brought = c.take-brought.ensures in
    let came = c.loop.invariant in
    subst (λ (s : SessionView). Leaves c.in-Over.ended s.graph.graph s.inputs c.args.seat c.turns.new.kit.seat) (brought.session ∙ came.session) (c.in-Over.ensures.stays c.args.seat (brought.stays c.args.seat came.stays))
