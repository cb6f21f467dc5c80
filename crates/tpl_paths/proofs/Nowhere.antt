-- Where there are no paths none go on, and nothing is found.
use Rattle.std.proofs.Common.{◌≡◌, ℕ, Bool, true, false, not, ◌&&◌, nat_eq, Option, Some, None, refl, sym, ap, ◌∙◌}
use Rattle.tpl_model.specs.declared.finals.Final.{Final}
use Rattle.tpl_model.specs.declared.finals.Final.TheVariants.{RanToCompletion, Canceled, Faulted}
use Rattle.tpl_model.specs.declared.status.Label.TheVariants.{Thrown, WorkFailed}
use Rattle.tpl_model.specs.declared.outcome.Outcome.{Outcome}
use Rattle.tpl_model.specs.declared.outcome.Outcome.TheVariants.{Returned, Threw, Acknowledged}
use Rattle.tpl_model.specs.Finals.{has}
use Rattle.tpl_model.specs.Statements.{Statement, Return, Throw, Check, Cancel, Start, Work, If, When, Statements, Nothing, ◌⨾◌}
use Rattle.tpl_model.specs.Paths.{cancellation}
use Rattle.tpl_model.specs.Recursion.{another}
use Rattle.tpl_model.specs.Knowledge.{Knowledge, Reached, ChildEnd, Reading, meet, when, nowhere, both, join, ends_well, behind_start, through, behind, collected, collected_in, ending_at, ending_as, throwing, starting}
use Rattle.tpl_paths.specs.declared.asked.Asked.{Asked}
use Rattle.tpl_paths.specs.declared.asked.Asked.TheVariants as asked
use Rattle.tpl_paths.specs.Asked.{asked_at}
use Rattle.tpl_paths.specs.Gathered.{Gathered, past_all}
use Rattle.tpl_paths.proofs.Meets.{meet_none}
use Rattle.tpl_paths.proofs.Taking.{same_reached}
use Rattle.tpl_paths.proofs.GatheredSoFar.{same_gathered}

when_none : (p : Bool) → when p None ≡ None
when_none true = refl
when_none false = refl

behind_start_nowhere : (c : Option ChildEnd) → behind_start c nowhere ≡ nowhere
behind_start_nowhere None = refl
behind_start_nowhere (Some c) =
    same_reached _ _ _ _ (when_none (ends_well c)) (ap (λ s. meet s (when (has c.ends Faulted) None)) (when_none (ends_well c)) ∙ when_none (has c.ends Faulted))

both_nowhere : (p : Bool) → both (when p) nowhere ≡ nowhere
both_nowhere true = refl
both_nowhere false = refl

either_nowhere : (p q : Bool) (x y : Reached) → x ≡ nowhere → y ≡ nowhere → join (both (when p) x) (both (when q) y) ≡ nowhere
either_nowhere p q x y e f =
    ap (λ r. join (both (when p) r) (both (when q) y)) e
    ∙ (ap (λ r. join (both (when p) nowhere) (both (when q) r)) f
    ∙ (ap (λ r. join r (both (when q) nowhere)) (both_nowhere p) ∙ both_nowhere q))

mutual
  through_nowhere : (w : Reading) (b : Statements) → through w b nowhere ≡ nowhere
  through_nowhere w Nothing = refl
  through_nowhere w (s ⨾ rest) = ap (through w rest) (behind_nowhere w s) ∙ through_nowhere w rest

  behind_nowhere : (w : Reading) (s : Statement) → behind w s nowhere ≡ nowhere
  behind_nowhere w (Cancel k) = both_nowhere (not (w.known.quiet k))
  behind_nowhere w (Start c) = behind_start_nowhere (w.child c)
  behind_nowhere w (If i a b) =
      either_nowhere (w.known.possible i true) (w.known.possible i false) (through w a nowhere) (through w b nowhere) (through_nowhere w a) (through_nowhere w b)
  behind_nowhere w (When f a b) =
      either_nowhere (w.known.subject f) (another w.known f) (through w a nowhere) (through w b nowhere) (through_nowhere w a) (through_nowhere w b)
  behind_nowhere w s = refl

either_none : (p q : Bool) (x y : Option Knowledge) → x ≡ None → y ≡ None → meet (when p x) (when q y) ≡ None
either_none p q x y e f =
    ap (λ s. meet (when p s) (when q y)) e
    ∙ (ap (λ s. meet (when p None) (when q s)) f ∙ (ap (λ s. meet s (when q None)) (when_none p) ∙ when_none q))

-- no statement asks for paths where there are none
abbrev FindsNone : (Statement → Reached → Option Knowledge) → Type 0
FindsNone ask = (s : Statement) → ask s nowhere ≡ None

mutual
  collected_nowhere : (ask : Statement → Reached → Option Knowledge) (w : Reading) → FindsNone ask → (b : Statements) → collected ask w b nowhere ≡ None
  collected_nowhere ask w h Nothing = refl
  collected_nowhere ask w h (s ⨾ rest) =
      ap (λ x. meet x (collected ask w rest (behind w s nowhere))) (collected_in_nowhere ask w h s)
      ∙ (ap (collected ask w rest) (behind_nowhere w s) ∙ collected_nowhere ask w h rest)

  collected_in_nowhere : (ask : Statement → Reached → Option Knowledge) (w : Reading) → FindsNone ask → (s : Statement) → collected_in ask w s nowhere ≡ None
  collected_in_nowhere ask w h (If i a b) =
      either_none (w.known.possible i true) (w.known.possible i false) (collected ask w a nowhere) (collected ask w b nowhere) (collected_nowhere ask w h a) (collected_nowhere ask w h b)
  collected_in_nowhere ask w h (When f a b) =
      either_none (w.known.subject f) (another w.known f) (collected ask w a nowhere) (collected ask w b nowhere) (collected_nowhere ask w h a) (collected_nowhere ask w h b)
  collected_in_nowhere ask w h s = h s

ending_nowhere : (pick : Outcome → Reached → Option Knowledge) (w : Reading) → ((o : Outcome) → pick o nowhere ≡ None) → FindsNone (ending_at pick w)
ending_nowhere pick w h Return = h Returned
ending_nowhere pick w h (Throw l) = h (Threw (Thrown (record { 0 = l })))
ending_nowhere pick w h (Check k) = ap (when (not (w.known.quiet k))) (h (cancellation w.known.own k)) ∙ when_none (not (w.known.quiet k))
ending_nowhere pick w h (Work site may_fail) =
    ap (when (may_fail && not (w.known.sure site))) (h (Threw (WorkFailed (record { 0 = site })))) ∙ when_none (may_fail && not (w.known.sure site))
ending_nowhere pick w h s = refl

ending_as_none : (f : Final) (o : Outcome) → ending_as f o nowhere ≡ None
ending_as_none RanToCompletion Returned = refl
ending_as_none RanToCompletion (Threw label) = refl
ending_as_none RanToCompletion Acknowledged = refl
ending_as_none Canceled Returned = refl
ending_as_none Canceled (Threw label) = refl
ending_as_none Canceled Acknowledged = refl
ending_as_none Faulted Returned = refl
ending_as_none Faulted (Threw label) = refl
ending_as_none Faulted Acknowledged = refl

throwing_none : (o : Outcome) → throwing o nowhere ≡ None
throwing_none Returned = refl
throwing_none (Threw label) = refl
throwing_none Acknowledged = refl

starting_nowhere : (c : ℕ) → FindsNone (starting c)
starting_nowhere c (Start d) = when_none (nat_eq d c)
starting_nowhere c s = refl

asked_nowhere : (a : Asked) (w : Reading) → FindsNone (asked_at a w)
asked_nowhere (asked.End f) w s = ending_nowhere (ending_as f) w (ending_as_none f) s
asked_nowhere asked.Throw w s = ending_nowhere throwing w throwing_none s
asked_nowhere (asked.Start c) w s = starting_nowhere c.0 s

-- a list that no path reaches changes nothing
pub past_nowhere : (a : Asked) (w : Reading) (b : Statements) (g : Gathered) → g.reached ≡ nowhere → past_all a w b g ≡ g
past_nowhere a w b g e =
    same_gathered _ _ _ _ (ap (through w b) e ∙ (through_nowhere w b ∙ sym e))
    (ap (λ r. meet g.found (collected (asked_at a w) w b r)) e ∙ (ap (meet g.found) (collected_nowhere (asked_at a w) w (asked_nowhere a w) b) ∙ meet_none g.found))
