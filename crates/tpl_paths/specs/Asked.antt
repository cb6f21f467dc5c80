-- What is asked for at the statements of a body.
use Rattle.std.specs.Prelude.{ℕ, Bool, true, false, Option, None}
use Rattle.tpl_model.specs.declared.outcome.Outcome.{Outcome}
use Rattle.tpl_model.specs.declared.outcome.Outcome.TheVariants.{Returned, Threw, Acknowledged}
use Rattle.tpl_model.specs.declared.finals.Final.TheVariants.{RanToCompletion, Canceled, Faulted}
use Rattle.tpl_model.specs.Statements.{Statement, Statements}
use Rattle.tpl_model.specs.Knowledge.{Knowledge, Reached, Reading, meet, through, collected, ending_at, ending_as, throwing, starting, from}
use Rattle.tpl_paths.specs.declared.asked.Asked.{Asked}
use Rattle.tpl_paths.specs.declared.asked.Asked.TheVariants as asked

-- the paths that end with an outcome, if they are asked for
abbrev pub ended : Asked → Outcome → Reached → Option Knowledge
ended (asked.End f) outcome r = ending_as f outcome r
ended asked.Throw outcome r = throwing outcome r
ended (asked.Start c) outcome r = None

-- of the paths that end with an outcome those are asked for on which no attached child ends Faulted
abbrev pub takes_unburdened : Asked → Outcome → Bool
takes_unburdened (asked.End RanToCompletion) Returned = true
takes_unburdened (asked.End RanToCompletion) outcome = false
takes_unburdened (asked.End Canceled) Acknowledged = true
takes_unburdened (asked.End Canceled) outcome = false
takes_unburdened (asked.End Faulted) (Threw label) = true
takes_unburdened (asked.End Faulted) outcome = false
takes_unburdened asked.Throw (Threw label) = true
takes_unburdened asked.Throw outcome = false
takes_unburdened (asked.Start c) outcome = false

-- and those on which one does
abbrev pub takes_burdened : Asked → Outcome → Bool
takes_burdened (asked.End Faulted) outcome = true
takes_burdened (asked.End f) outcome = false
takes_burdened asked.Throw (Threw label) = true
takes_burdened asked.Throw outcome = false
takes_burdened (asked.Start c) outcome = false

-- what is asked for at a statement
abbrev pub asked_at : Asked → Reading → Statement → Reached → Option Knowledge
asked_at (asked.End f) w s r = ending_at (ending_as f) w s r
asked_at asked.Throw w s r = ending_at throwing w s r
asked_at (asked.Start c) w s r = starting c.0 s r

-- what is asked for of a body, where these tokens are known at its begin
abbrev pub known_by : Asked → Reading → (ℕ → Bool) → Statements → Option Knowledge
known_by a w tokens body = meet (collected (asked_at a w) w body (from tokens)) (ended a Returned (through w body (from tokens)))
