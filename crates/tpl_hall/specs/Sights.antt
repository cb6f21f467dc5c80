-- What is reported of a run to a seat, the newest event first.
use Rattle.std.specs.Prelude.{◌≡◌, ℕ, ◌≤◌, Bool, true, List, length, take, reverse, Option, Some, None}
use Rattle.tpl_model.specs.Graph.{TaskGraph, is_task, is_token}
use Rattle.tpl_model.specs.declared.event.Event.{Event}
use Rattle.tpl_model.specs.Facts.{requested}
use Rattle.tpl_model.specs.Rules.{Run, status, Complete as IsComplete}
use Rattle.tpl_hall.specs.declared.sight.Sight.{Sight}
use Rattle.tpl_hall.specs.declared.sight.Sight.TheVariants.{At, Already, Complete}
use Rattle.tpl_hall.specs.Lists.{Stands}

-- what was reported is true of a run
abbrev pub IsTrueOf : TaskGraph → List Bool → List Event → Sight → Type 0
IsTrueOf g v h (At t s) = status g v h t.0 ≡ s
IsTrueOf g v h (Already k) = requested g v h k.0 ≡ true
IsTrueOf g v h Complete = IsComplete g v h

-- the report is about a task or token of the graph, or about the whole run
abbrev pub IsOf : TaskGraph → Sight → Type 0
IsOf g (At t s) = is_task g t.0
IsOf g (Already k) = is_token g k.0
IsOf g Complete = Unit {0}

-- what was reported last lies in a run of n events
abbrev pub IsWithin : ℕ → Option (ℕ × Sight) → Type 0
IsWithin n None = Unit {0}
IsWithin n (Some l) = l.0 ≤ n

-- what was reported last is of this graph, and true of the first events of the journal, the first one first, up to its place
abbrev pub LastHolds : TaskGraph → List Bool → List Event → Option (ℕ × Sight) → Type 0
LastHolds g v journal None = Unit {0}
LastHolds g v journal (Some l) = (l.0 ≤ length journal) × IsOf g l.1 × IsTrueOf g v (reverse (take l.0 journal)) l.1

-- There is a run of n events of this graph with these inputs that has all of the seat's own events at their places, in which this is true; and n isn't below the place of what was reported to the seat before
pub record IsSeen (g : TaskGraph) (v : List Bool) (mine : List (ℕ × Event)) (last : Option (ℕ × Sight)) (sight : Sight) (n : ℕ) : Type 0 where
  pub events : List Event
  pub run : Run g v events
  pub place : length events ≡ n
  pub is_true : IsTrueOf g v events sight
  pub stands : Stands mine (reverse events)
  pub not_before : IsWithin n last
