-- Whether the paths through statements start a child.
use Rattle.std.specs.Prelude.{◌≡◌, ℕ, ◌&&◌, ◌||◌, Bool, List, nat_lt}
use Rattle.tpl_model.specs.declared.limits.TheConstants.{MOST_TASKS}
use Rattle.tpl_model.specs.Members.{mem}
use Rattle.tpl_model.specs.TaskSet.{IsTaskSet}
use Rattle.tpl_model.specs.declared.starts.Starts.{Starts}
use Rattle.tpl_model.specs.Statements.{Statement, Statements}
use Rattle.tpl_model.specs.Paths.{Known}
use Rattle.tpl_model.specs.Recursion.{gets_through, passes_by, none, reaches, reaches_in}

-- what the paths through one part and then another do
abbrev pub then_starts : Starts → Starts → Starts
then_starts a b = record { goes_on = a.goes_on && b.goes_on; started = a.started || (a.goes_on && b.started) }

-- what the paths through one part or another do
abbrev pub either_start : Starts → Starts → Starts
either_start a b = record { goes_on = a.goes_on || b.goes_on; started = a.started || b.started }

-- what the paths through a part do, if it may be taken
abbrev pub start_if : Bool → Starts → Starts
start_if possible a = record { goes_on = possible && a.goes_on; started = possible && a.started }

-- what the paths through a list of statements do: go on, start the child
abbrev pub start_in : ℕ → Known → Statements → Starts
start_in c w b = record { goes_on = gets_through none w b; started = reaches c w b }

-- what the paths through one statement do: go on, start the child
abbrev pub start_at : ℕ → Known → Statement → Starts
start_at c w s = record { goes_on = passes_by none w s; started = reaches_in c w s }

-- the new set is the old one with those of the 1,024 tasks that pass the test
pub record Adds (old new : List ℕ) (test : ℕ → Bool) : Type 0 where
  pub members : (x : ℕ) → mem x new ≡ (mem x old || (nat_lt x MOST_TASKS && test x))
  pub set : IsTaskSet old → IsTaskSet new
