-- Workers in order.
use Rattle.std.specs.Prelude.{ℕ, zero, suc, ◌+◌, ◌<◌, ◌≤◌, Bool, List, [], ◌∷◌, ◌++◌, None, ◌≡◌, length, map, All, IsPermutation}
use Rattle.tpl_model.specs.declared.status.Actor.{Actor}
use Rattle.tpl_model.specs.declared.status.Actor.TheVariants.{Worker}
use Rattle.tpl_model.specs.declared.limits.TheConstants.{MOST_WORKERS}
use Rattle.tpl_model.specs.Graph.{TaskGraph}
use Rattle.tpl_hall.specs.declared.seat.SeatFault.TheVariants.{SeatTaken}
use Rattle.tpl_hall.specs.declared.sight.Ended.{Ended}
use Rattle.tpl_hall.specs.Stays.{Leaves}
use Rattle.tpl_hall.specs.Views.{SeatView}
use Rattle.tpl_runtime.specs.Views.{SessionView}
use Rattle.tpl_runtime.specs.declared.run.RunWhy.{RunWhy}
use Rattle.tpl_runtime.specs.declared.run.RunWhy.TheVariants.{BadCount, Seat, Spawn, Memory}

-- the worker of a number
abbrev pub worker : ℕ → Actor
worker n = Worker (record { 0 = n })

-- the workers 1 to n, in order
abbrev pub workers : ℕ → List Actor
workers zero = []
workers (suc n) = workers n ++ worker (n + 1) ∷ []

-- a session has 1 to MOST_WORKERS workers
abbrev pub IsCount : ℕ → Type 0
IsCount n = (0 < n) × (n ≤ MOST_WORKERS)

-- a new seat of this actor, with this room: no events, and nothing was reported to it
abbrev pub new_seat : Actor → ℕ → SeatView
new_seat actor room = record { actor = actor; mine = []; last = None; room = room }

-- the seat has no events, and nothing was reported to it
abbrev pub IsNew : SeatView → Type 0
IsNew seat = (seat.mine ≡ []) × (seat.last ≡ None)

-- these are new seats of the workers 1 to n, in order
pub record AreNew (n : ℕ) (seats : List SeatView) : Type 0 where
  pub actors : map (λ s. s.actor) seats ≡ workers n
  pub new : All IsNew seats

-- what a worker leaves that came with a new seat
abbrev pub HasWorked : TaskGraph → List Bool → SeatView → Ended → Type 0
HasWorked g v seat ended = Leaves ended g v (new_seat seat.actor seat.room) seat

-- each of these workers came with a new seat, and this is what it left in the session
abbrev pub AllWorked : SessionView → List (SeatView × Ended) → Type 0
AllWorked s done = All (λ d. HasWorked s.graph.graph s.inputs d.0 d.1) done

-- these are new seats of the workers before the worker w, which is one of n
pub record AreBefore (w n : ℕ) (seats : List SeatView) : Type 0 where
  pub number : w ≡ length seats + 1
  pub few : w ≤ n
  pub made : AreNew (length seats) seats

-- the seats that come back where n workers didn't all run: those of the workers 1 to n, in some order, where there was no thread for one; else no worker was started, and they are those that were made before the one that has none, whose seat was taken or for which there was no memory
abbrev pub ComeBack : RunWhy → ℕ → List SeatView → Type 0
ComeBack BadCount n seats = seats ≡ []
ComeBack (Seat w fault) n seats = (fault ≡ SeatTaken) × AreBefore w.0 n seats
ComeBack Spawn n seats = IsPermutation (workers n) (map (λ s. s.actor) seats)
ComeBack (Memory w) n seats = AreBefore w.0 n seats
