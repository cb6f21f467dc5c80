-- How the paths through statements end, for each verdict at once.
use Rattle.std.specs.Prelude.{ℕ, ◌&&◌, ◌||◌, not, Bool, true, false}
use Rattle.tpl_model.specs.declared.outcome.Outcome.{Outcome}
use Rattle.tpl_model.specs.declared.outcome.Outcome.TheVariants.{Returned, Acknowledged}
use Rattle.tpl_model.specs.declared.ends.Ends.{Ends}
use Rattle.tpl_model.specs.Statements.{Statement, Statements}
use Rattle.tpl_model.specs.Paths.{Known, is_own, is_observation}
use Rattle.tpl_model.specs.Recursion.{gets_through, passes_by, stops, stops_at, is_throw}

-- the body returned
abbrev pub is_return : Outcome → Bool
is_return Returned = true
is_return outcome = false

-- the body acknowledged a cancellation
abbrev pub is_acknowledgement : Outcome → Bool
is_acknowledgement Acknowledged = true
is_acknowledgement outcome = false

-- what the paths through one part and then another do
abbrev pub then_ends : Ends → Ends → Ends
then_ends a b = record {
  goes_on = a.goes_on && b.goes_on;
  returned = a.returned || (a.goes_on && b.returned);
  thrown = a.thrown || (a.goes_on && b.thrown);
  acknowledged = a.acknowledged || (a.goes_on && b.acknowledged);
}

-- what the paths through one part or another do
abbrev pub either_end : Ends → Ends → Ends
either_end a b = record {
  goes_on = a.goes_on || b.goes_on;
  returned = a.returned || b.returned;
  thrown = a.thrown || b.thrown;
  acknowledged = a.acknowledged || b.acknowledged;
}

-- what the paths through a part do, if it may be taken
abbrev pub only_if : Bool → Ends → Ends
only_if possible a = record {
  goes_on = possible && a.goes_on;
  returned = possible && a.returned;
  thrown = possible && a.thrown;
  acknowledged = possible && a.acknowledged;
}

-- the statement is avoided: it observes, and paths may not pass an observation
abbrev pub avoided : Bool → Statement → Bool
avoided past_observe s = is_observation s && not past_observe

-- what the paths through a list of statements do: go on, return, throw, acknowledge
abbrev pub ends_in : Bool → Known → Statements → Ends
ends_in past_observe w b = record {
  goes_on = gets_through (avoided past_observe) w b;
  returned = stops (avoided past_observe) is_return w b;
  thrown = stops (avoided past_observe) is_throw w b;
  acknowledged = stops (avoided past_observe) is_acknowledgement w b;
}

-- what the paths through one statement do: go on, return, throw, acknowledge
abbrev pub ends_at : Bool → Known → Statement → Ends
ends_at past_observe w s = let kept = not (avoided past_observe s) in record {
  goes_on = kept && passes_by (avoided past_observe) w s;
  returned = kept && stops_at (avoided past_observe) is_return w s;
  thrown = kept && stops_at (avoided past_observe) is_throw w s;
  acknowledged = kept && stops_at (avoided past_observe) is_acknowledgement w s;
}

-- what a check of the token k does: it goes on, and where k may be requested it acknowledges or throws
abbrev pub checked : Known → ℕ → Ends
checked w k = record {
  goes_on = true;
  returned = false;
  thrown = not (w.quiet k) && not (is_own w.own k);
  acknowledged = not (w.quiet k) && is_own w.own k;
}
