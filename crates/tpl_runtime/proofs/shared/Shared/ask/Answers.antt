use Rattle.std.proofs.Common.{◌≡◌, ap, ◌∙◌, subst, sym, length}
use Rattle.std.proofs.lemmas.Bool.{false≢true}
use Rattle.tpl_model.specs.Rules.{IsOutside}
use Rattle.tpl_hall.specs.Growth.{Requests}
use Rattle.tpl_hall.specs.Moves.{Fits, HasRoom}
use Rattle.tpl_hall.specs.Views.{SeatView}
use Rattle.tpl_hall.proofs.MoveLemmas.{requests_of}
use Rattle.tpl_runtime.proofs.AskLemmas.{can_request}
use Rattle.tpl_runtime.proofs.shared.Shared.ask.Goals as goal

pub unreachable-requires : goal.unreachable-requires
unreachable-requires g c =
    let core = c.args.self.now.hall.core in
    let graph = c.args.graph.now in
    let inputs = c.args.inputs.now in
    let first = c.tell_requested.new.seat in
    let same : c.args.seat.now ≡ first = sym (c.tell_requested.ensures.not_told c.if-tell_requested.false) in
    let fits : Fits core graph inputs first = subst (Fits core graph inputs) same (c.fits.ensures.fits c.if-not-fits.false) in
    let room : HasRoom graph.graph (length core.events) first = subst (HasRoom graph.graph (length core.events)) same (c.fits.ensures.room c.if-not-fits.false) in
    let outside : IsOutside first.actor = subst (λ (s : SeatView). IsOutside s.actor) same (subst IsOutside c.actor.ensures (c.is_worker.ensures.0 c.if-is_worker.false)) in
    absurd (false≢true (c.in_default.ensures.exact.1 (can_request c.is_bounded.ensures graph inputs first core c.args.token c.run_law.ensures fits room outside c.requires.token
    (sym c.tell_requested.ensures.exact ∙ c.if-tell_requested.false))))

pub returns-clause-asked : goal.returns-clause-asked
returns-clause-asked g c =
    let ok = c.in-Ok.ensures in
    let swept = c.sweep.ensures in
    let core = c.args.self.now.hall.core in
    let first = c.tell_requested.new.seat in
    let same : first ≡ c.args.seat.now = c.tell_requested.ensures.not_told c.if-tell_requested.false in
    let fits : Fits core c.args.graph.now c.args.inputs.now first = subst (Fits core c.args.graph.now c.args.inputs.now) (sym same) (c.fits.ensures.fits c.if-not-fits.false) in
    subst (λ (s : SeatView). Requests c.args.graph.now.graph c.args.inputs.now s c.sweep.new.seat c.args.token c.in-Ok.place × (c.sweep.new.seat.last ≡ s.last)) same (
      requests_of c.args.graph.now c.args.inputs.now first c.step.new.seat c.sweep.new.seat core c.step.new.self.core c.sweep.new.self.core c.args.token c.in-Ok.place
          fits ok.run ok.place ok.seat swept.grown swept.graph.0 swept.graph.1 c.run_law-2.ensures swept.swept,
      swept.seat.1 ∙ ap (λ (s : SeatView). s.last) ok.seat,
    )
