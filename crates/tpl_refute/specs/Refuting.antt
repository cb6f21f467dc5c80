-- What refutes a claim.
use Rattle.std.specs.Prelude.{◌≡◌, ℕ, ◌<◌, ◌⊎◌, Bool, List, length, reverse}
use Rattle.std.specs.List.{All}
use Rattle.tpl_model.specs.Journal.{IsSeat}
use Rattle.tpl_model.specs.Graph.{TaskGraph}
use Rattle.tpl_model.specs.declared.event.Event.{Event}
use Rattle.tpl_model.specs.Rules.{Run}
use Rattle.tpl_model.specs.Claims.{Claim, Holds}
use Rattle.tpl_audit.specs.Audit.{first_events}

-- The events are a run of the graph with these inputs, one for each that it has. The claim doesn't hold of it, and
-- holds of each beginning of it. A journal can name whoever acts.
pub record Refutes (g : TaskGraph) (claim : Claim) (v : List Bool) (events : List Event) : Type 0 where
  pub inputs : length v ≡ g.inputs
  pub run : Run g v (reverse events)
  pub fails : Holds g claim v (reverse events) → ⊥
  pub earlier : (place : ℕ) → place < length events → Holds g claim v (first_events events place)
  pub seats : All (λ e. IsSeat e.actor) events

-- A search that may make so many runs found none: it made them all, or no event is left to be played.
abbrev pub IsUsedUp : (runs made left : ℕ) → Type 0
IsUsedUp runs made left = (made ≡ runs) ⊎ (left ≡ 0)
