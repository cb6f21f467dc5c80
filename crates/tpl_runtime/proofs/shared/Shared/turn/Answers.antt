use Rattle.std.proofs.Common.{◌≡◌, ◌∙◌, refl, sym, subst, None}
use Rattle.tpl_hall.specs.declared.sight.Ended.{Ended}
use Rattle.tpl_hall.specs.Stays.{GoesAs, MayGoOn}
use Rattle.tpl_hall.proofs.StayLemmas.{goes_on_moved}
use Rattle.tpl_runtime.specs.Turns.{IsTurnOf, Proceeds}
use Rattle.tpl_runtime.specs.declared.shared.Turn.TheVariants.{Over}
use Rattle.tpl_runtime.proofs.TurnLemmas.{keeps_on, on_over, stays_on}
use Rattle.tpl_runtime.proofs.shared.Shared.turn.Goals as goal

pub returns-in-Over-clause-keeps : goal.returns-in-Over-clause-keeps
returns-in-Over-clause-keeps g c =
    let q = c.play-turn.ensures.proceeds in
    let kit = c.args.kit.now in
    let done = c.play-turn.new.kit in
    let was = c.args.self.now.hall.core in
    let now = c.play-turn.new.self.hall.core in
    let p : Proceeds kit done was now = record { session = q.session; stint = q.stint; moves = q.moves; last = q.last } in
    record {
      session = p.session;
      actor = c.let_go.ensures.actor ∙ p.moves.actor;
      stays = λ first stays.
          let goes = c.may_turn.ensures.goes c.if-not-may_turn.false first stays in
          c.let_go.ensures.left first (stays_on kit done c.len.result first was now stays goes p c.len.ensures) (goes_on_moved first kit.seat done.seat was now goes p.moves p.last);
    }

pub returns-in_default-clause-keeps : goal.returns-in_default-clause-keeps
returns-in_default-clause-keeps g c =
    let q = c.play-turn.ensures.proceeds in
    let kit = c.args.kit.now in
    let done = c.play-turn.new.kit in
    let was = c.args.self.now.hall.core in
    let now = c.play-turn.new.self.hall.core in
    let p : Proceeds kit done was now = record { session = q.session; stint = q.stint; moves = q.moves; last = q.last } in
    let k = keeps_on c.play-turn.result kit done c.len.result was now c.in_default.not-Over (c.may_turn.ensures.goes c.if-not-may_turn.false) p c.len.ensures in
    record { session = k.session; actor = k.actor; stays = k.stays }

pub returns-then-not-may_turn-clause-keeps : goal.returns-then-not-may_turn-clause-keeps
returns-then-not-may_turn-clause-keeps g c =
    record { session = refl; actor = c.stray.ensures.actor; stays = λ first stays. c.stray.ensures.left first stays c.args.kit.now.graph.now.graph c.args.kit.now.inputs.now }

pub returns-in-Over-clause-plays : goal.returns-in-Over-clause-plays
returns-in-Over-clause-plays g c = λ may.
    let done = c.play-turn.ensures in
    let left = c.play-turn.new.kit.seat in
    record {
      played = c.play-turn.result;
      left = left;
      is_played = done.plays;
      moves = done.proceeds.moves;
      last = done.proceeds.last;
      turns = subst (λ t. IsTurnOf t (Over c.let_go.result) (MayGoOn None c.play-turn.new.self.hall.core c.args.kit.now.graph.now c.args.kit.now.inputs.now left)) (sym c.in-Over.is) (c.let_go.result, refl, c.let_go.ensures.ended);
    }

pub returns-in_default-clause-plays : goal.returns-in_default-clause-plays
returns-in_default-clause-plays g c = λ may.
    let done = c.play-turn.ensures in
    let left = c.play-turn.new.kit.seat in
    let fits = MayGoOn None c.play-turn.new.self.hall.core c.args.kit.now.graph.now c.args.kit.now.inputs.now left in
    record {
      played = c.play-turn.result;
      left = left;
      is_played = done.plays;
      moves = done.proceeds.moves;
      last = done.proceeds.last;
      turns = on_over c.play-turn.result (λ ended. (gone : Ended) × (c.play-turn.result ≡ Over gone) × GoesAs gone ended fits) (c.play-turn.result ≡ c.play-turn.result) c.in_default.not-Over refl;
    }
