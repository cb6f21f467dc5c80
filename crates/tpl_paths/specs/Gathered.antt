-- What a walk over a body gathers.
use Rattle.std.specs.Prelude.{Bool, Option}
use Rattle.tpl_model.specs.Statements.{Statement, Statements}
use Rattle.tpl_model.specs.Knowledge.{Knowledge, Reached, Reading, meet, when, both, join, through, behind, collected, collected_in}
use Rattle.tpl_paths.specs.declared.asked.Asked.{Asked}
use Rattle.tpl_paths.specs.declared.gathered.Gathered.{Gathered as StoredGathered}
use Rattle.tpl_paths.specs.Knowledge.{told}
use Rattle.tpl_paths.specs.Reached.{reached_of}
use Rattle.tpl_paths.specs.Asked.{asked_at}

-- the paths to a place, and what those have in common that were asked for on the way
pub record Gathered : Type 0 where
  pub reached : Reached
  pub found : Option Knowledge

-- the same of what lies in memory
abbrev pub gathered_of : StoredGathered → Gathered
gathered_of g = record { reached = reached_of g.reached; found = told g.found }

-- what is gathered behind a list of statements
abbrev pub past_all : Asked → Reading → Statements → Gathered → Gathered
past_all a w b g = record { reached = through w b g.reached; found = meet g.found (collected (asked_at a w) w b g.reached) }

-- what is gathered behind one statement
abbrev pub past : Asked → Reading → Statement → Gathered → Gathered
past a w s g = record { reached = behind w s g.reached; found = meet g.found (collected_in (asked_at a w) w s g.reached) }

-- what is gathered behind a list, if it may be taken
abbrev pub past_if : Bool → Asked → Reading → Statements → Gathered → Gathered
past_if test a w b g = record {
  reached = both (when test) (through w b g.reached);
  found = meet g.found (when test (collected (asked_at a w) w b g.reached));
}

-- what is gathered behind either of two lists, each if it may be taken
abbrev pub past_either : Bool → Statements → Bool → Statements → Asked → Reading → Gathered → Gathered
past_either p first q second a w g = record {
  reached = join (both (when p) (through w first g.reached)) (both (when q) (through w second g.reached));
  found = meet g.found (meet (when p (collected (asked_at a w) w first g.reached)) (when q (collected (asked_at a w) w second g.reached)));
}
