-- How many acts of a task can be due.
use Rattle.std.specs.Prelude.{◌≡◌, ℕ, Bool, List}
use Rattle.tpl_model.specs.Graph.{TaskGraph}
use Rattle.tpl_model.specs.declared.event.Act.{Act}
use Rattle.tpl_model.specs.declared.event.Event.{Event}
use Rattle.tpl_model.specs.Rules.{Run}
use Rattle.tpl_run.specs.Reading.{IsDue}

-- in a run, two acts of one task that are due are the same
abbrev pub OneIsDue : Type 0
OneIsDue = (g : TaskGraph) (v : List Bool) (h : List Event) (t : ℕ) (a b : Act) → Run g v h → IsDue g v h t a → IsDue g v h t b → a ≡ b
