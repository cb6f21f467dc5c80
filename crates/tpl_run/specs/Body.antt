-- What a step leaves of a body, once what it tests is known.
use Rattle.std.specs.Prelude.{ℕ, Bool, false, List, Option, Some, None, slice_index_or, if◌then◌else◌}
use Rattle.tpl_model.specs.declared.status.Label.TheVariants.{Thrown}
use Rattle.tpl_model.specs.declared.outcome.Outcome.TheVariants.{Returned, Threw}
use Rattle.tpl_model.specs.Statements.{Statement, Statements, Return, Throw, Check, Cancel, Start, Observe, Work, If, When, Nothing, ◌⨾◌, followed_by}
use Rattle.tpl_model.specs.Paths.{cancellation}
use Rattle.tpl_model.specs.Graph.{TaskGraph, kind}
use Rattle.tpl_model.specs.Facts.{Rest, Ending, on, over, subject_in, has_final, is_observe}

-- what the next statement of t tests: whether a token is requested, an input is true, or the subject has ended in a way
abbrev pub decision : TaskGraph → List Bool → ℕ → Statements → (ℕ → Bool) → (ℕ → Option Ending) → Bool
decision g v t (Check k ⨾ more) requested ending = requested k
decision g v t (If i first second ⨾ more) requested ending = slice_index_or v i false
decision g v t (When f first second ⨾ more) requested ending = has_final f ending (subject_in g (kind g t) ending)
decision g v t left requested ending = false

abbrev pub passed_of : Option ℕ → Bool → Statement → Statements → Rest
passed_of own holds Return more = over Returned
passed_of own holds (Throw l) more = over (Threw (Thrown (record { 0 = l })))
passed_of own holds (Check k) more = if holds then over (cancellation own k) else on more
passed_of own holds (Cancel k) more = on more
passed_of own holds (Start c) more = on more
passed_of own holds Observe more = on more
passed_of own holds (Work s may_fail) more = on (Work s may_fail ⨾ more)
passed_of own holds (If i first second) more = on (followed_by (if holds then first else second) more)
passed_of own holds (When f first second) more = on (followed_by (if holds then first else second) more)

-- what a step leaves, by the task's own token and what the next statement tests
abbrev pub passed : Option ℕ → Bool → Statements → Rest
passed own holds Nothing = on Nothing
passed own holds (s ⨾ more) = passed_of own holds s more

-- the token that the next statement cancels, and the child that it starts
abbrev pub cancel_of : Statements → Option ℕ
cancel_of (Cancel k ⨾ more) = Some k
cancel_of left = None

abbrev pub start_of : Statements → Option ℕ
start_of (Start c ⨾ more) = Some c
start_of left = None

-- the task whose exceptions the next statement observes
abbrev pub observed_in : Statements → Option ℕ → Option ℕ
observed_in left subject = if is_observe left then subject else None
