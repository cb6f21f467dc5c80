-- A worker's seat between the worker's sections under the lock.
use Rattle.std.specs.Prelude.{◌≡◌, ◌⊎◌, ℕ, ◌≤◌, Bool, List, length, Option, Some, None}
use Rattle.tpl_model.specs.Graph.{TaskGraph}
use Rattle.tpl_model.specs.Rules.{Complete as IsComplete}
use Rattle.tpl_draft.specs.Named.{Named}
use Rattle.tpl_machine.specs.Journal.{Journal}
use Rattle.tpl_hall.specs.declared.sight.Ended.{Ended}
use Rattle.tpl_hall.specs.declared.sight.Ended.TheVariants.{Complete, Halted, Stray}
use Rattle.tpl_hall.specs.declared.stint.Stint.{Stint}
use Rattle.tpl_hall.specs.Views.{SeatView}
use Rattle.tpl_hall.specs.Lists.{Extends, AllUpTo}
use Rattle.tpl_hall.specs.Sights.{IsWithin}
use Rattle.tpl_hall.specs.Growth.{WorksOn}
use Rattle.tpl_hall.specs.Moves.{Fits, HasRoom, EndsAs}

-- the seat's list goes on from the one with which it came, nothing more was reported to it, and nothing that it has lies beyond the first n events
pub record GoesOn (n : ℕ) (first seat : SeatView) : Type 0 where
  pub last : seat.last ≡ first.last
  pub room : seat.room ≡ first.room
  pub list : Extends first.mine seat.mine
  pub below : AllUpTo n seat.mine
  pub within : IsWithin n first.last

-- the seat is as it came, or it goes on from there among as many events as the run had
abbrev pub IsOn : Option ℕ → SeatView → SeatView → Type 0
IsOn None first seat = seat ≡ first
IsOn (Some n) first seat = GoesOn n first seat

-- the worker came with this seat
pub record Stays (stint : Stint) (first seat : SeatView) : Type 0 where
  pub came : length first.mine ≡ stint.came
  pub on : IsOn stint.seen first seat

-- a worker's seat may go on: where its worker comes, if it fits and has room, and later if the run is at least as long as it was
abbrev pub MayGoOn : Option ℕ → Journal → Named → List Bool → SeatView → Type 0
MayGoOn None j graph v seat = Fits j graph v seat × HasRoom graph.graph (length j.events) seat
MayGoOn (Some n) j graph v seat = n ≤ length j.events

-- a worker's work ends as complete only where the run is
abbrev pub MayEnd : Ended → Journal → Type 0
MayEnd Complete j = IsComplete j.graph j.inputs j.events
MayEnd Halted j = Unit {0}
MayEnd Stray j = Unit {0}

-- how a worker goes whose work ends so: as it ends where its seat fits, else as stray
abbrev pub GoesAs : Ended → Ended → Type 0 → Type 0
GoesAs result ended fits = ((result ≡ ended) × fits) ⊎ ((result ≡ Stray) × (fits → ⊥))

-- what a worker leaves that came with the first seat
pub record Leaves (ended : Ended) (g : TaskGraph) (v : List Bool) (first seat : SeatView) : Type 0 where
  pub list : WorksOn g v first.mine seat.mine
  pub last : EndsAs ended g v first seat
  pub room : seat.room ≡ first.room
