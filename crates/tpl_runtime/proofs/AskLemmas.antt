-- A request that is allowed.
use Rattle.std.proofs.Common.{◌≡◌, ◌<◌, ◌∷◌, Bool, List, true, false, refl, sym, ap, subst, arith, length, inl, inr}
use Rattle.tpl_model.specs.declared.ids.TokenId.{TokenId}
use Rattle.tpl_model.specs.declared.event.Act.TheVariants.{Request}
use Rattle.tpl_model.specs.Facts.{requested}
use Rattle.tpl_model.specs.Graph.{is_token}
use Rattle.tpl_model.specs.Rules.{Run, IsOutside}
use Rattle.tpl_model.specs.Valid.{bound}
use Rattle.tpl_draft.specs.Named.{Named}
use Rattle.tpl_laws.specs.Runs.{IsBounded}
use Rattle.tpl_machine.specs.Journal.{Journal, AllowsNext}
use Rattle.tpl_hall.specs.Answers.{is_silent}
use Rattle.tpl_hall.specs.Lists.{by}
use Rattle.tpl_hall.specs.Moves.{Fits, HasRoom}
use Rattle.tpl_hall.specs.Views.{SeatView}

allowed : (graph : Named) (v : List Bool) (seat : SeatView) (j : Journal) (k : TokenId) → Fits j graph v seat → IsOutside seat.actor → is_token graph.graph k.0
    → requested j.graph j.inputs j.events k.0 ≡ false → AllowsNext j (by seat.actor (Request k))
allowed graph v seat j k f outside token none = (outside, subst (λ (n : Named). is_token n.graph k.0) (sym f.same_graph) token, none)

has_room : IsBounded → (graph : Named) (v : List Bool) (seat : SeatView) (j : Journal) (k : TokenId) → Run j.graph j.inputs j.events → Fits j graph v seat
    → AllowsNext j (by seat.actor (Request k)) → HasRoom graph.graph (length j.events) seat → length seat.mine < seat.room
has_room bounded graph v seat j k run f may (inl room) = room
has_room bounded graph v seat j k run f may (inr most) =
    let longer = bounded j.graph j.inputs (by seat.actor (Request k) ∷ j.events) (run, may) in
    absurd (omega (arith, longer, most, ap (λ (n : Named). bound n.graph) f.same_graph))

-- a seat outside that fits the run may request a token that wasn't requested
pub can_request : IsBounded → (graph : Named) (v : List Bool) (seat : SeatView) (j : Journal) (k : TokenId) → Run j.graph j.inputs j.events → Fits j graph v seat
    → HasRoom graph.graph (length j.events) seat → IsOutside seat.actor → is_token graph.graph k.0 → requested j.graph j.inputs j.events k.0 ≡ false
    → (is_silent (Request k) ≡ true) × (length seat.mine < seat.room) × AllowsNext j (by seat.actor (Request k))
can_request bounded graph v seat j k run f room outside token none =
    let may = allowed graph v seat j k f outside token none in
    (refl, has_room bounded graph v seat j k run f may room, may)
