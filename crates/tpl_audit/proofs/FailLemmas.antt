-- Where claims fail first.
use Rattle.std.proofs.Common.{◌≡◌, ℕ, zero, suc, ◌+◌, ◌<◌, ◌≤◌, ◌++◌, Bool, true, false, if◌then◌else◌, Option, Some, None, List, [], ◌∷◌, length, get_or, take, drop, reverse, refl, sym, ap, ◌∙◌, subst, nat_eq, ⊎_elim, arith}
use Rattle.std.specs.Prelude.{IfSome, slice_get, nat_le, nat_lt}
use Rattle.std.proofs.lemmas.Bool.{or_cases, eqb-true, ltb-true, ltb-false, lt-leb}
use Rattle.std.proofs.lemmas.List.{take_all, take-take, length-take-le, reverse-append, length-reverse, take-append-drop}
use Rattle.std.proofs.lemmas.List.Elements.{All-head, All-tail, All-more}
use Rattle.std.proofs.lemmas.Option.{slice_get-get_or, slice_get_within}
use Rattle.tpl_model.specs.declared.finals.Final.{Final}
use Rattle.tpl_model.specs.declared.ids.TaskId.{TaskId}
use Rattle.tpl_model.specs.Graph.{TaskGraph, is_token}
use Rattle.tpl_model.specs.declared.event.Event.{Event}
use Rattle.tpl_model.specs.declared.claim.Given.{Given}
use Rattle.tpl_model.specs.declared.claim.Given.TheVariants.{Input, Quiet, Ended, Succeeds}
use Rattle.tpl_model.specs.Claims.{Claim, Holds}
use Rattle.tpl_model.specs.Rules.{Run}
use Rattle.tpl_model.specs.Valid.{IsGraph, all_sites}
use Rattle.tpl_graph.specs.Fits.{IsGivenOf, AreGivenOf, Fits}
use Rattle.tpl_laws.specs.Runs.{gives_quiet, PrefixIsRun}
use Rattle.tpl_laws.specs.ClaimTests.{HoldsIsRight}
use Rattle.tpl_laws.specs.Failing.{is_at, first_failure, FailureIsTold}
use Rattle.tpl_laws.specs.Failing as law
use Rattle.tpl_audit.specs.declared.verdict.Failure.{Failure}
use Rattle.tpl_audit.specs.Audit.{first_events, AllHoldAt, IsFirstFailure, FirstFails, better, IsVerdict, FindsNoFailure}
use Rattle.tpl_audit.specs.declared.verdict.Verdict.{Verdict}
use Rattle.tpl_audit.specs.declared.verdict.Verdict.TheVariants.{Run as Ran, NotAllowed, Memory}
use Rattle.tpl_model.specs.Certificate.{given_sure, Tree}
use Rattle.tpl_model.specs.declared.rule_set.RuleSet.{RuleSet}
use Rattle.tpl_laws.specs.ByRules.{AcceptsBy, SoundByRules}
use Rattle.tpl_laws.specs.Soundness.{Each}
use Rattle.tpl_audit.specs.Watching.{noted_of, IsWatched}
use Rattle.tpl_audit.proofs.WatchLemmas.{length-first}

-- one claim

quiet_token : (g : TaskGraph) (given : List Given) (k : ℕ) → AreGivenOf g given → gives_quiet given k ≡ true → is_token g k
quiet_token g [] k fit e = absurd (cc)
quiet_token g (Input i value ∷ given) k fit e = quiet_token g given k (All-tail (IsGivenOf g) (Input i value) given fit) e
quiet_token g (Quiet j ∷ given) k fit e =
    ⊎_elim
    (λ here. subst (is_token g) (eqb-true j.0 k here) (All-head (IsGivenOf g) (Quiet j) given fit))
    (λ later. quiet_token g given k (All-tail (IsGivenOf g) (Quiet j) given fit) later)
    (or_cases (nat_eq j.0 k) (gives_quiet given k) e)
quiet_token g (Ended t ends ∷ given) k fit e = quiet_token g given k (All-tail (IsGivenOf g) (Ended t ends) given fit) e
quiet_token g (Succeeds s ∷ given) k fit e = quiet_token g given k (All-tail (IsGivenOf g) (Succeeds s) given fit) e

sure_site : (g : TaskGraph) (given : List Given) (site : ℕ) → AreGivenOf g given → given_sure given site ≡ true → site < length (all_sites g)
sure_site g [] site fit e = absurd (cc)
sure_site g (Input i value ∷ given) site fit e = sure_site g given site (All-tail (IsGivenOf g) (Input i value) given fit) e
sure_site g (Quiet j ∷ given) site fit e = sure_site g given site (All-tail (IsGivenOf g) (Quiet j) given fit) e
sure_site g (Ended t ends ∷ given) site fit e = sure_site g given site (All-tail (IsGivenOf g) (Ended t ends) given fit) e
sure_site g (Succeeds s ∷ given) site fit e =
    ⊎_elim
    (λ here. subst (λ z. z < length (all_sites g)) (eqb-true s.0 site here) (All-head (IsGivenOf g) (Succeeds s) given fit))
    (λ later. sure_site g given site (All-tail (IsGivenOf g) (Succeeds s) given fit) later)
    (or_cases (nat_eq s.0 site) (given_sure given site) e)

pub told_at : (g : TaskGraph) (v : List Bool) (h : List Event) (claim : Claim) (complete : Option ℕ) (asked failures : List (Option ℕ)) (result : Option ℕ) → FailureIsTold → IsGraph g → Run g v h → Fits g claim → IsWatched g v h complete asked failures → result ≡ first_failure g v h complete (noted_of asked failures) claim → law.IsFirstFailure g v h claim result
told_at g v h claim complete asked failures result told valid run fits w e =
    subst (law.IsFirstFailure g v h claim) (sym e)
    (told g v h complete (noted_of asked failures) claim valid run w.completes
    (λ k quiet. w.requests k (quiet_token g claim.given k fits.given quiet))
    (λ site sure. w.failures site (sure_site g claim.given site fits.given sure)))

-- A claim by the places of a list: it holds before its place, and not there.
pub record FailsAt (g : TaskGraph) (v : List Bool) (events : List Event) (claim : Claim) (o : Option ℕ) : Type 0 where
  pub within : IfSome o (λ p. p ≤ length events)
  pub holds_before : (p : ℕ) → p ≤ length events → is_at o p ≡ false → Holds g claim v (first_events events p)
  pub fails_there : (p : ℕ) → p ≤ length events → o ≡ Some p → Holds g claim v (first_events events p) → ⊥

pub by_places : (g : TaskGraph) (v : List Bool) (events : List Event) (claim : Claim) (o : Option ℕ) → HoldsIsRight → IsGraph g → law.IsFirstFailure g v (reverse events) claim o → FailsAt g v events claim o
by_places g v events claim o right valid f = record {
  within = within o f.within;
  holds_before = λ p le late. (right g claim v (first_events events p) valid).0 (f.before (reverse (drop p events)) (first_events events p) (parts p) (ap (is_at o) (length-first events p le) ∙ late));
  fails_there = λ p le at h.
      let no_more = f.there (reverse (drop p events)) (first_events events p) (parts p) (at ∙ ap Some (sym (length-first events p le))) in
      let still = (right g claim v (first_events events p) valid).1 h in
      absurd (cc);
}
  where
    within : (q : Option ℕ) → IfSome q (λ p. p ≤ length (reverse events)) → IfSome q (λ p. p ≤ length events)
    within None w = tt
    within (Some p) w = let size = length-reverse events in omega arith

    parts : (p : ℕ) → reverse (drop p events) ++ first_events events p ≡ reverse events
    parts p = sym (reverse-append (take p events) (drop p events)) ∙ ap reverse (take-append-drop p events)

get_taken : (claims : List Claim) (n i : ℕ) → i < n → slice_get (take n claims) i ≡ slice_get claims i
get_taken claims zero i lt = absurd (omega arith)
get_taken [] (suc n) i lt = refl
get_taken (x ∷ claims) (suc n) zero lt = refl
get_taken (x ∷ claims) (suc n) (suc i) lt = get_taken claims n i (omega arith)

-- the first failure among the first n claims, and then among one more
module _ (g : TaskGraph) (v : List Bool) (events : List Event) (claims : List Claim) (n : ℕ) (d : Claim) (lt : n < length claims) where
  one_more : (p : ℕ) → AllHoldAt g v events (take n claims) p → Holds g (get_or claims n d) v (first_events events p) → AllHoldAt g v events (take (n + 1) claims) p
  one_more p all here = All-more (λ claim. Holds g claim v (first_events events p)) claims n d lt all here

  stays : (failure : Failure) → IsFirstFailure g v events (take n claims) failure → ((p : ℕ) → p < failure.place → Holds g (get_or claims n d) v (first_events events p)) → IsFirstFailure g v events (take (n + 1) claims) failure
  stays failure found holds_it =
      let below : found.before < n = (let e = length-take-le n claims (omega arith) in let inside = slice_get_within (take n claims) found.before found.claim found.there in omega arith) in
      record {
        within = found.within;
        earlier = λ p early. one_more p (found.earlier p early) (holds_it p early);
        before = found.before;
        number = found.number;
        claim = found.claim;
        there = get_taken claims (n + 1) found.before (omega arith) ∙ (sym (get_taken claims n found.before below) ∙ found.there);
        fails = found.fails;
        least = subst (λ (l : List Claim). AllHoldAt g v events l failure.place) (take-take found.before n claims (omega arith) ∙ sym (take-take found.before (n + 1) claims (omega arith))) found.least;
      }

  replaces : (place : ℕ) → ((p : ℕ) → p ≤ place → AllHoldAt g v events (take n claims) p) → FailsAt g v events (get_or claims n d) (Some place) → IsFirstFailure g v events (take (n + 1) claims) (record { place = place; claim = n + 1 })
  replaces place all f = record {
    within = f.within;
    earlier = λ p early. one_more p (all p (omega arith)) (f.holds_before p (let in_it = f.within in omega arith) (late p early));
    before = n;
    number = omega arith;
    claim = get_or claims n d;
    there = get_taken claims (n + 1) n (omega arith) ∙ slice_get-get_or claims n d lt;
    fails = f.fails_there place f.within refl;
    least = subst (λ (l : List Claim). AllHoldAt g v events l place) (sym (take-take n (n + 1) claims (omega arith))) (all place (omega arith));
  }
    where
      late : (p : ℕ) → p < place → nat_le place p ≡ false
      late p early = lt-leb place p early

  pub found_more : (found : Option Failure) (o : Option ℕ) → FirstFails g v events (take n claims) found → FailsAt g v events (get_or claims n d) o → FirstFails g v events (take (n + 1) claims) (better found o (n + 1))
  found_more None None all f = λ p le. one_more p (all p le) (f.holds_before p le refl)
  found_more (Some failure) None found f = stays failure found (λ p early. f.holds_before p (let in_it = found.within in omega arith) refl)
  found_more None (Some place) all f = replaces place (λ p le. all p (let in_it = f.within in omega arith)) f
  found_more (Some failure) (Some place) found f = here (nat_lt place failure.place) refl
    where
      here : (b : Bool) → nat_lt place failure.place ≡ b → FirstFails g v events (take (n + 1) claims) (if b then Some (record { place = place; claim = n + 1 }) else Some failure)
      here true e = replaces place (λ p le. found.earlier p (let less = ltb-true place failure.place e in omega arith)) f
      here false e =
          stays failure found (λ p early.
          let le = ltb-false place failure.place e in
          f.holds_before p (let in_it = found.within in omega arith) (lt-leb place p (omega arith)))

pub all_found : (g : TaskGraph) (v : List Bool) (events : List Event) (claims : List Claim) (n : ℕ) (found : Option Failure) → length claims ≤ n → FirstFails g v events (take n claims) found → FirstFails g v events claims found
all_found g v events claims n found le = subst (λ (l : List Claim). FirstFails g v events l found) (take_all n claims le)

-- where a certificate is accepted, nothing fails

each_at : (P : Claim → Type 0) (claims : List Claim) (i : ℕ) (claim : Claim) → Each P claims → slice_get claims i ≡ Some claim → P claim
each_at P [] i claim all e = absurd (cc)
each_at P (x ∷ claims) zero claim all e = let same : x ≡ claim = cc in subst P same all.0
each_at P (x ∷ claims) (suc i) claim all e = each_at P claims i claim all.1 e

pub front_run : (g : TaskGraph) (v : List Bool) (events : List Event) (p : ℕ) → PrefixIsRun → Run g v (reverse events) → Run g v (first_events events p)
front_run g v events p prefix run =
    let parts : reverse (drop p events) ++ first_events events p ≡ reverse events = sym (reverse-append (take p events) (drop p events)) ∙ ap reverse (take-append-drop p events) in
    prefix g v (reverse (drop p events)) (first_events events p) (subst (Run g v) (sym parts) run)

pub sound_verdict : (rules : RuleSet) (g : TaskGraph) (v : List Bool) (events : List Event) (claims : List Claim) (ended : List (TaskId × Final)) (verdict : Verdict) (certificate : List Tree) → SoundByRules → PrefixIsRun → IsGraph g → IsVerdict g v events claims ended verdict → AcceptsBy rules g claims certificate → FindsNoFailure verdict
sound_verdict rules g v events claims ended (Ran complete None other_end) certificate sound prefix valid is accepted = refl
sound_verdict rules g v events claims ended (Ran complete (Some failure) other_end) certificate sound prefix valid is accepted =
    let f = is.failure in
    let hold = sound rules g claims certificate valid accepted v (first_events events failure.place) (front_run g v events failure.place prefix is.run) in
    absurd (f.fails (each_at (λ claim. Holds g claim v (first_events events failure.place)) claims f.before f.claim hold f.there))
sound_verdict rules g v events claims ended (NotAllowed place) certificate sound prefix valid is accepted = tt
sound_verdict rules g v events claims ended Memory certificate sound prefix valid is accepted = tt
