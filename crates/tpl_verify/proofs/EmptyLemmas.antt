-- What says nothing holds, and when a claim that holds needs a begin.
use Rattle.std.proofs.Common.{◌≡◌, ◌<◌, arith, length, ℕ, zero, suc, ◌&&◌, ◌||◌, not, ◌⊎◌, inl, inr, Bool, true, false, if◌then◌else◌, is_some, Option, Some, None, List, [], ◌∷◌, nat_eq, subst, sym, refl, ◌∙◌}
use Rattle.std.specs.Prelude.{slice_index_or}
use Rattle.std.proofs.lemmas.Bool.{cases_Bool}
use Rattle.tpl_model.specs.declared.ids.TaskId.{TaskId}
use Rattle.tpl_model.specs.declared.finals.Final.{Final}
use Rattle.tpl_model.specs.declared.finals.Final.TheVariants.{RanToCompletion, Canceled, Faulted}
use Rattle.tpl_model.specs.declared.finals.Finals.{Finals}
use Rattle.tpl_model.specs.Finals.{IsPart, has}
use Rattle.tpl_model.specs.declared.status.Actor.{Actor}
use Rattle.tpl_model.specs.declared.status.Label.{Label}
use Rattle.tpl_model.specs.declared.outcome.Outcome.TheVariants.{Threw}
use Rattle.tpl_model.specs.declared.event.Event.{Event}
use Rattle.tpl_model.specs.declared.claim.Given.{Given}
use Rattle.tpl_model.specs.declared.claim.Given.TheVariants.{Input, Quiet, Ended, Succeeds}
use Rattle.tpl_model.specs.declared.claim.Property.{Property}
use Rattle.tpl_model.specs.declared.claim.Property.TheVariants.{Final as EndsIn, After, Observed, Never, Excludes, Runs}
use Rattle.tpl_model.specs.Graph.{TaskGraph, TaskKind, Root, Child, Continues, WhenAll, WhenAny, kind}
use Rattle.tpl_model.specs.Facts.{Ending, begun, begun_by, ending, ended_at_once, outcome_in, rest}
use Rattle.tpl_model.specs.Rules.{final, label, Run, Complete}
use Rattle.tpl_model.specs.Claims.{Claim, IsGiven, HoldsOf, SettledAtBegin}
use Rattle.tpl_model.specs.Certificate.{assumed, end_left, given_end}
use Rattle.tpl_model.proofs.Truths.{true_false, and_first, and_second}
use Rattle.tpl_graph.specs.Fits.{Fits, has_body}
use Rattle.tpl_model.proofs.MemberLemmas.{same_self}
use Rattle.tpl_laws.proofs.Basics.{same_number, some_none}
use Rattle.tpl_laws.proofs.Kept.{begun_kept, ending_new, final_of}
use Rattle.tpl_laws.proofs.Ready.{IsBody}
use Rattle.tpl_laws.proofs.Carrying.{Ends, drops, leaves, settled, how_ends}
use Rattle.tpl_laws.proofs.Chains.{no_settle, threw_begun}
use Rattle.tpl_laws.proofs.Observing.{label_verdict}
use Rattle.tpl_verify.specs.declared.verdict.Empty.{Empty}
use Rattle.tpl_verify.specs.declared.verdict.Empty.TheVariants.{NeverBegins, NamesAllEnds, NamesGivenEnds, NeverThrows, NeverEndsSo, NeverEnds, NeverKept}
use Rattle.tpl_verify.specs.Verdicts.{EmptyClaimsHold, EndsAnyhow, EndsAsGiven, HasNoLabel, HoldsAlways, IsEmpty, IsEndGiven, IsNeverKept, LeavesEnd, LetsBeCanceled, NeedsBegin, HasNoEnd, SpeaksOfBegin, SpeaksOfComplete, SpeaksOfEnd, no_end, under}

-- what has a body is no WhenAll and no WhenAny task
is_body : (k : TaskKind) → has_body k ≡ true → IsBody k
is_body Root e = tt
is_body Child e = tt
is_body (Continues a) e = tt
is_body (WhenAll args) e = true_false (sym e)
is_body (WhenAny args) e = true_false (sym e)

not_at_once : (k : TaskKind) (r : Ending) → IsBody k → ended_at_once k ≡ Some r → ⊥
not_at_once Root r b e = some_none r (sym e)
not_at_once Child r b e = some_none r (sym e)
not_at_once (Continues a) r b e = some_none r (sym e)
not_at_once (WhenAll args) r b e = b
not_at_once (WhenAny args) r b e = b

-- a task with a body that hasn't begun is canceled, if it has ended
unbegun_ending : (g : TaskGraph) (v : List Bool) (h : List Event) (t : ℕ) (r : Ending) → Run g v h → IsBody (kind g t) → is_some (begun h t) ≡ false → ending g v h t ≡ Some r → r.final ≡ Canceled
unbegun_ending g v [] t r run body b e = absurd (not_at_once (kind g t) r body e)
unbegun_ending g v (ev ∷ h) t r run body b e =
    elim (ending_new g v h ev.actor ev.act t r e) [
      | inl old ↦ unbegun_ending g v h t r run.0 body before old
      | inr new ↦ by_end (how_ends g v h ev.actor ev.act t r run.0 run.1 new.0 new.1)
    ]
  where
    before : is_some (begun h t) ≡ false
    before = elim (cases_Bool (is_some (begun h t))) [ inl q ↦ true_false (sym (begun_kept h ev.actor ev.act t q) ∙ b) | inr q ↦ q ]

    by_end : Ends g v h t r → r.final ≡ Canceled
    by_end (drops i d f c) = f
    by_end (leaves i q) = true_false (sym q.begun ∙ before)
    by_end (settled i c place who s) = absurd (no_settle (kind g t) (ending g v h) body c)

unbegun_canceled : (g : TaskGraph) (v : List Bool) (h : List Event) (t : ℕ) (f : Final) → Run g v h → has_body (kind g t) ≡ true → is_some (begun h t) ≡ false → final g v h t ≡ Some f → f ≡ Canceled
unbegun_canceled g v h t f run body b e =
    let r = final_of (ending g v h t) f e in
    sym r.2 ∙ unbegun_ending g v h t r.0 run (is_body (kind g t) body) b r.1

-- where b never begins, anything is settled when it does
never_settles : (g : TaskGraph) (v : List Bool) (a b : ℕ) (h : List Event) → is_some (begun h b) ≡ false → SettledAtBegin g v a b h
never_settles g v a b [] never = tt
never_settles g v a b (e ∷ h) never =
    (λ q. true_false (sym (now (begun_by e.act b) (begun h b) q) ∙ never), never_settles g v a b h (old (begun_by e.act b) (begun h b) never))
  where
    now : (c : Bool) (o : Option Actor) → c ≡ true → is_some (if c then Some e.actor else o) ≡ true
    now true o q = refl
    now false o q = true_false (sym q)

    old : (c : Bool) (o : Option Actor) → is_some (if c then Some e.actor else o) ≡ false → is_some o ≡ false
    old true o q = true_false q
    old false o q = q

no_end_has : (f : Final) → has no_end f ≡ true → ⊥
no_end_has RanToCompletion e = true_false (sym e)
no_end_has Canceled e = true_false (sym e)
no_end_has Faulted e = true_false (sym e)

neither : (a b : Bool) → (a ≡ false) ⊎ (b ≡ false) → (a && b) ≡ false
neither false b one = refl
neither true false one = refl
neither true true (inl e) = e
neither true true (inr e) = e

-- what speaks only of a begin is true where there is none
unbegun_holds : (g : TaskGraph) (given : List Given) (body : Property TaskId) (t : ℕ) (v : List Bool) (h : List Event) → has_body (kind g t) ≡ true → SpeaksOfBegin body t → LetsBeCanceled g given body → Run g v h → IsGiven g v h given → is_some (begun h t) ≡ false → HoldsOf g v h body
unbegun_holds g given (EndsIn s ends) t v h has_one speaks lets run kept never =
    λ f e. elim lets [
      | inl c ↦ subst (λ (z : Final). has ends z ≡ true) (sym (unbegun_canceled g v h t f run has_one never (subst (λ (z : ℕ). final g v h z ≡ Some f) (sym speaks.0) e))) c
      | inr n ↦ absurd (no_end_has f (n v h run kept f e))
    ]
unbegun_holds g given (After a b) t v h has_one speaks lets run kept never =
    never_settles g v a.0 b.0 h (subst (λ (z : ℕ). is_some (begun h z) ≡ false) speaks never)
unbegun_holds g given (Observed s) t v h has_one speaks lets run kept never =
    λ complete l e. true_false (sym (threw_begun g v h s.0 l run (label_verdict (outcome_in (rest g v h s.0)) l e)) ∙ subst (λ (z : ℕ). is_some (begun h z) ≡ false) speaks never)
unbegun_holds g given (Never s) t v h has_one speaks lets run kept never = absurd speaks
unbegun_holds g given (Excludes a b) t v h has_one speaks lets run kept never =
    elim speaks [
      | inl e ↦ neither (is_some (begun h a.0)) (is_some (begun h b.0)) (inl (subst (λ (z : ℕ). is_some (begun h z) ≡ false) e never))
      | inr e ↦ neither (is_some (begun h a.0)) (is_some (begun h b.0)) (inr (subst (λ (z : ℕ). is_some (begun h z) ≡ false) e never))
    ]
unbegun_holds g given (Runs s) t v h has_one speaks lets run kept never = absurd speaks

each_end_has : (ends : Finals) → (ends.ran ≡ true) × (ends.canceled ≡ true) × (ends.faulted ≡ true) → (f : Final) → has ends f ≡ true
each_end_has ends each RanToCompletion = each.0
each_end_has ends each Canceled = each.1
each_end_has ends each Faulted = each.2

anyhow_holds : (g : TaskGraph) (body : Property TaskId) (v : List Bool) (h : List Event) → EndsAnyhow body → HoldsOf g v h body
anyhow_holds g (EndsIn t ends) v h each = λ f e. each_end_has ends each f
anyhow_holds g (After a b) v h each = absurd each
anyhow_holds g (Observed t) v h each = absurd each
anyhow_holds g (Never t) v h each = absurd each
anyhow_holds g (Excludes a b) v h each = absurd each
anyhow_holds g (Runs t) v h each = absurd each

-- what keeps the given leaves the end
kept_end : (g : TaskGraph) (v : List Bool) (h : List Event) (given : List Given) (t : ℕ) (f : Final) → IsGiven g v h given → final g v h t ≡ Some f → LeavesEnd given t f
kept_end g v h [] t f kept e = tt
kept_end g v h (Input i value ∷ given) t f kept e = kept_end g v h given t f kept.1 e
kept_end g v h (Quiet k ∷ given) t f kept e = kept_end g v h given t f kept.1 e
kept_end g v h (Ended s ends ∷ given) t f kept e =
    (λ q. kept.0 f (subst (λ (z : ℕ). final g v h z ≡ Some f) (sym q) e), kept_end g v h given t f kept.1 e)
kept_end g v h (Succeeds site ∷ given) t f kept e = kept_end g v h given t f kept.1 e

as_given_holds : (g : TaskGraph) (given : List Given) (body : Property TaskId) (v : List Bool) (h : List Event) → EndsAsGiven given body → IsGiven g v h given → HoldsOf g v h body
as_given_holds g given (EndsIn t ends) v h each kept = λ f e. each f (kept_end g v h given t.0 f kept e)
as_given_holds g given (After a b) v h each kept = absurd each
as_given_holds g given (Observed t) v h each kept = absurd each
as_given_holds g given (Never t) v h each kept = absurd each
as_given_holds g given (Excludes a b) v h each kept = absurd each
as_given_holds g given (Runs t) v h each kept = absurd each

-- what speaks of complete runs alone is true of one that isn't
incomplete_holds : (g : TaskGraph) (body : Property TaskId) (v : List Bool) (h : List Event) → SpeaksOfComplete body → (Complete g v h → ⊥) → HoldsOf g v h body
incomplete_holds g (EndsIn t ends) v h speaks none = absurd speaks
incomplete_holds g (After a b) v h speaks none = absurd speaks
incomplete_holds g (Observed t) v h speaks none = λ complete l e. absurd (none complete)
incomplete_holds g (Never t) v h speaks none = absurd speaks
incomplete_holds g (Excludes a b) v h speaks none = absurd speaks
incomplete_holds g (Runs t) v h speaks none = λ complete. absurd (none complete)

-- what speaks of an end alone is true where there is none
endless_holds : (g : TaskGraph) (given : List Given) (body : Property TaskId) (t : TaskId) (v : List Bool) (h : List Event) → SpeaksOfEnd body t → HasNoEnd g given t → Run g v h → IsGiven g v h given → HoldsOf g v h body
endless_holds g given (EndsIn s ends) t v h speaks none run kept =
    λ f e. absurd (no_end_has f (none v h run kept f (subst (λ (z : TaskId). final g v h z.0 ≡ Some f) (sym speaks) e)))
endless_holds g given (After a b) t v h speaks none run kept = absurd speaks
endless_holds g given (Observed s) t v h speaks none run kept = absurd speaks
endless_holds g given (Never s) t v h speaks none run kept = absurd speaks
endless_holds g given (Excludes a b) t v h speaks none run kept = absurd speaks
endless_holds g given (Runs s) t v h speaks none run kept = absurd speaks

no_label_holds : (g : TaskGraph) (given : List Given) (body : Property TaskId) (t : TaskId) (v : List Bool) (h : List Event) → body ≡ Observed t → HasNoLabel g given t.0 → Run g v h → IsGiven g v h given → HoldsOf g v h body
no_label_holds g given body t v h is none run kept =
    subst (λ (p : Property TaskId). HoldsOf g v h p) (sym is) (λ complete l e. some_none l (sym e ∙ none v h run complete kept))

pub empty_holds : EmptyClaimsHold
empty_holds g claim (NeverBegins t) fits is v h run kept =
    unbegun_holds g claim.given claim.body t.0 v h is.0.body is.0.speaks is.0.canceled run kept (is.1 v h run kept)
empty_holds g claim NamesAllEnds fits is v h run kept = anyhow_holds g claim.body v h is
empty_holds g claim NamesGivenEnds fits is v h run kept = as_given_holds g claim.given claim.body v h is kept
empty_holds g claim NeverThrows fits is v h run kept = no_label_holds g claim.given claim.body is.0 v h is.1 is.2 run kept
empty_holds g claim (NeverEndsSo t) fits is v h run kept = is.2 v h run (is.1 v h run kept, kept)
empty_holds g claim (NeverEnds t) fits is v h run kept = endless_holds g claim.given claim.body t v h is.0 is.1 run kept
empty_holds g claim NeverKept fits is v h run kept = incomplete_holds g claim.body v h is.0 (λ complete. is.1 v h run complete kept)

-- a claim about how a task ends that holds, where the task never begins
lets : (g : TaskGraph) (given : List Given) (body : Property TaskId) (t : TaskId) → HoldsAlways g (under given body) → SpeaksOfBegin body t.0 → has_body (kind g t.0) ≡ true → HoldsAlways g (under given (Never t)) → LetsBeCanceled g given body
lets g given (EndsIn s ends) t holds speaks body never =
    elim (cases_Bool ends.canceled) [
      | inl c ↦ inl c
      | inr c ↦ inr (λ v h run kept f e.
          let at_t = subst (λ (z : ℕ). final g v h z ≡ Some f) (sym speaks.0) e in
          let so = unbegun_canceled g v h t.0 f run body (never v h run kept) at_t in
          true_false (sym (subst (λ (z : Final). has ends z ≡ true) so (holds v h run kept f e)) ∙ c))
    ]
lets g given (After a b) t holds speaks body never = tt
lets g given (Observed s) t holds speaks body never = tt
lets g given (Never s) t holds speaks body never = tt
lets g given (Excludes a b) t holds speaks body never = tt
lets g given (Runs s) t holds speaks body never = tt

-- what a claim that holds speaks of never begins
pub unbegun_empty : (g : TaskGraph) (claim : Claim) (t : TaskId) → HoldsAlways g claim → SpeaksOfBegin claim.body t.0 → Fits g (under claim.given (Never t)) → HoldsAlways g (under claim.given (Never t)) → IsEmpty g claim (NeverBegins t)
unbegun_empty g claim t holds speaks fits never =
    let body = and_first (has_body (kind g t.0)) true fits.bodies in
    (record { body = body; speaks = speaks; canceled = lets g claim.given claim.body t holds speaks body never }, never)

-- an end of the task stands in what is given
end_given : (given : List Given) (i : ℕ) (d : Given) (t : TaskId) (ends : Finals) → i < length given → slice_index_or given i d ≡ Ended t ends → IsEndGiven given t.0
end_given [] i d t ends lt e = absurd (omega arith)
end_given (x ∷ given) zero d t ends lt e = subst (λ (z : Given). IsEndGiven (z ∷ given) t.0) (sym e) (inl refl)
end_given (x ∷ given) (suc i) d t ends lt e = there x (end_given given i d t ends (omega arith) e)
  where
    there : (one : Given) → IsEndGiven given t.0 → IsEndGiven (one ∷ given) t.0
    there (Input j value) q = q
    there (Quiet k) q = q
    there (Ended s some) q = inr q
    there (Succeeds site) q = q

-- an end of a task is given, and never comes about
pub endless_empty : (g : TaskGraph) (claim : Claim) (given : List Given) (i : ℕ) (d : Given) (t : TaskId) (ends : Finals) → HoldsAlways g claim → given ≡ claim.given → i < length given → slice_index_or given i d ≡ Ended t ends → HasNoEnd g claim.given t → IsEmpty g claim (NeverEndsSo t)
endless_empty g claim given i d t ends holds same lt is none =
    (subst (λ (z : List Given). IsEndGiven z t.0) same (end_given given i d t ends lt is), none, λ v h run kept. holds v h run kept.1)

end_named : (same is_named : Bool) → (not same || is_named) ≡ true → same ≡ true → is_named ≡ true
end_named true is_named e q = e
end_named false is_named e q = true_false (sym q)

not_named : (same is_named : Bool) → (same ≡ true → is_named ≡ true) → (not same || is_named) ≡ true
not_named true is_named q = q refl
not_named false is_named q = refl

both_true : (a b : Bool) → a ≡ true → b ≡ true → (a && b) ≡ true
both_true true b e q = q
both_true false b e q = true_false (sym e)

-- an end is left just where the test says so
pub is_left : (given : List Given) (t : ℕ) (f : Final) → given_end given t f ≡ true → LeavesEnd given t f
is_left [] t f e = tt
is_left (Input i value ∷ given) t f e = is_left given t f e
is_left (Quiet k ∷ given) t f e = is_left given t f e
is_left (Ended s ends ∷ given) t f e =
    let named = not (nat_eq s.0 t) || has ends f in
    (λ q. end_named (nat_eq s.0 t) (has ends f) (and_first named (given_end given t f) e) (subst (λ (z : ℕ). nat_eq s.0 z ≡ true) q (same_self s.0)), is_left given t f (and_second named (given_end given t f) e))
is_left (Succeeds site ∷ given) t f e = is_left given t f e

pub left_is : (given : List Given) (t : ℕ) (f : Final) → LeavesEnd given t f → given_end given t f ≡ true
left_is [] t f is = refl
left_is (Input i value ∷ given) t f is = left_is given t f is
left_is (Quiet k ∷ given) t f is = left_is given t f is
left_is (Ended s ends ∷ given) t f is =
    both_true (not (nat_eq s.0 t) || has ends f) (given_end given t f) (not_named (nat_eq s.0 t) (has ends f) (λ q. is.0 (same_number s.0 t q))) (left_is given t f is.1)
left_is (Succeeds site ∷ given) t f is = left_is given t f is

-- each end that is left by what is assumed is named just where each is that what is given leaves
pub as_given : (g : TaskGraph) (given : List Given) (t : TaskId) (left ends : Finals) → ((f : Final) → has left f ≡ end_left (assumed g given) t.0 f) → IsPart left ends → EndsAsGiven given (EndsIn t ends)
as_given g given t left ends same part f is = part f (same f ∙ left_is given t.0 f is)

pub given_as : (g : TaskGraph) (given : List Given) (t : TaskId) (left ends : Finals) → ((f : Final) → has left f ≡ end_left (assumed g given) t.0 f) → EndsAsGiven given (EndsIn t ends) → IsPart left ends
given_as g given t left ends same each f e = each f (is_left given t.0 f (sym (same f) ∙ e))

-- what is said of the end of a task that never ends says nothing
pub own_empty : (g : TaskGraph) (claim : Claim) (t : TaskId) (ends : Finals) → claim.body ≡ EndsIn t ends → HasNoEnd g claim.given t → IsEmpty g claim (NeverEnds t)
own_empty g claim t ends is none = (subst (λ (p : Property TaskId). SpeaksOfEnd p t) (sym is) refl, none)
