-- What an audit says of a list of events.
use Rattle.std.specs.Prelude.{◌≡◌, ℕ, suc, ◌<◌, ◌≤◌, ◌↔◌, Bool, true, Option, Some, None, List, length, take, reverse, slice_get, nat_lt, if◌then◌else◌}
use Rattle.std.specs.List.{All}
use Rattle.tpl_model.specs.Graph.{TaskGraph}
use Rattle.tpl_model.specs.declared.finals.Final.{Final}
use Rattle.tpl_model.specs.declared.ids.TaskId.{TaskId}
use Rattle.tpl_model.specs.declared.event.Event.{Event}
use Rattle.tpl_model.specs.Rules.{Allows, Run, Complete}
use Rattle.tpl_model.specs.Claims.{Claim, Holds}
use Rattle.tpl_audit.specs.declared.verdict.Failure.{Failure}
use Rattle.tpl_audit.specs.declared.verdict.OtherEnd.{OtherEnd}
use Rattle.tpl_audit.specs.declared.verdict.Verdict.{Verdict}
use Rattle.tpl_audit.specs.declared.verdict.Verdict.TheVariants.{Run as Ran, NotAllowed, Memory}
use Rattle.tpl_audit.specs.Ending.{FirstOtherEnd}

-- the first events of a list, the newest first
abbrev pub first_events : List Event → ℕ → List Event
first_events events place = reverse (take place events)

-- each claim holds after this many events
abbrev pub AllHoldAt : TaskGraph → List Bool → List Event → List Claim → ℕ → Type 0
AllHoldAt g v events claims place = All (λ claim. Holds g claim v (first_events events place)) claims

-- At this place a claim doesn't hold for the first time, and it is the least that doesn't hold there. Claims count
-- from 1.
pub record IsFirstFailure (g : TaskGraph) (v : List Bool) (events : List Event) (claims : List Claim) (failure : Failure) : Type 0 where
  pub within : failure.place ≤ length events
  pub earlier : (place : ℕ) → place < failure.place → AllHoldAt g v events claims place
  pub before : ℕ
  pub number : failure.claim ≡ suc before
  pub claim : Claim
  pub there : slice_get claims before ≡ Some claim
  pub fails : Holds g claim v (first_events events failure.place) → ⊥
  pub least : AllHoldAt g v events (take before claims) failure.place

-- where a claim fails first; none where each claim holds at each place
abbrev pub FirstFails : TaskGraph → List Bool → List Event → List Claim → Option Failure → Type 0
FirstFails g v events claims None = (place : ℕ) → place ≤ length events → AllHoldAt g v events claims place
FirstFails g v events claims (Some failure) = IsFirstFailure g v events claims failure

-- the failure of a claim with this number, where it is at an earlier place than the one that was found
abbrev pub better : Option Failure → Option ℕ → ℕ → Option Failure
better found None claim = found
better None (Some place) claim = Some (record { place = place; claim = claim })
better (Some failure) (Some place) claim = if nat_lt place failure.place then Some (record { place = place; claim = claim }) else Some failure

-- the events are a run
pub record IsAudited (g : TaskGraph) (v : List Bool) (events : List Event) (claims : List Claim) (ended : List (TaskId × Final)) (complete : Bool) (fails : Option Failure) (other_end : Option OtherEnd) : Type 0 where
  pub run : Run g v (reverse events)
  pub completeness : (complete ≡ true) ↔ Complete g v (reverse events)
  pub failure : FirstFails g v events claims fails
  pub ends : FirstOtherEnd g v (reverse events) ended other_end

-- The event at this place is the first that isn't allowed after those before it. Places count from 1.
pub record IsFirstRefused (g : TaskGraph) (v : List Bool) (events : List Event) (place : ℕ) : Type 0 where
  pub before : ℕ
  pub number : place ≡ suc before
  pub run : Run g v (first_events events before)
  pub event : Event
  pub there : slice_get events before ≡ Some event
  pub refused : Allows g v (first_events events before) event.actor event.act → ⊥

-- the verdict on a list of events
abbrev pub IsVerdict : TaskGraph → List Bool → List Event → List Claim → List (TaskId × Final) → Verdict → Type 0
IsVerdict g v events claims ended (Ran complete fails other_end) = IsAudited g v events claims ended complete fails other_end
IsVerdict g v events claims ended (NotAllowed place) = IsFirstRefused g v events place
IsVerdict g v events claims ended Memory = Unit {0}

-- no claim fails, where the events are a run
abbrev pub FindsNoFailure : Verdict → Type 0
FindsNoFailure (Ran complete fails other_end) = fails ≡ None
FindsNoFailure (NotAllowed place) = Unit {0}
FindsNoFailure Memory = Unit {0}
