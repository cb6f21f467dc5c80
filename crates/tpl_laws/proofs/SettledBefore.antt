-- What is settled where a task begins.
use Rattle.std.proofs.Common.{◌≡◌, ℕ, suc, ◌≤◌, ◌++◌, inl, inr, Bool, true, false, Option, Some, None, List, [], ◌∷◌, refl, sym, ap, ◌∙◌, subst, arith, length}
use Rattle.std.proofs.lemmas.Bool.{cases_Bool}
use Rattle.tpl_model.proofs.Truths.{true_false}
use Rattle.tpl_model.specs.declared.status.Status.TheVariants.{WaitingToRun}
use Rattle.tpl_model.specs.Graph.{TaskGraph, TaskKind, WhenAll, WhenAny, kind, IsParent}
use Rattle.tpl_model.specs.declared.status.Actor.{Actor}
use Rattle.tpl_model.specs.declared.event.Act.{Act}
use Rattle.tpl_model.specs.declared.event.Act.TheVariants.{Begin, Settle}
use Rattle.tpl_model.specs.declared.event.Event.{Event}
use Rattle.tpl_model.specs.Facts.{Ending, Rest, begun, begun_by, place_in, ended_at_once, settled_as, ending_by, rest, started, ending}
use Rattle.tpl_model.specs.Rules.{Allows, Run, Settled, ended, unstarted}
use Rattle.tpl_model.specs.Valid.{IsGraph}
use Rattle.tpl_model.specs.Claims.{SettledAtBegin}
use Rattle.tpl_laws.proofs.Basics.{if_true, if_false, some_none, the_some, is_some_of, same_number}
use Rattle.tpl_laws.proofs.Kept.{waiting_facts, ending_new}
use Rattle.tpl_laws.proofs.Prefixes.{nothing_goes_back_lem}
use Rattle.tpl_laws.proofs.Settling.{child_rules, started_before, settled_kept}
use Rattle.tpl_laws.specs.Settling.{SettledBefore, ended_before, never_started, SettledWithoutBegin, SettledBeforeItsBegin}

-- a task ends at the place of an event, or before the first one
at_once_place : (k : TaskKind) (r : Ending) → ended_at_once k ≡ Some r → r.place ≡ 0
at_once_place (WhenAll []) r e = ap place_in (sym e)
at_once_place k r e = some_none r (sym e)

settled_place : (k : TaskKind) (place : ℕ) (a : Option Actor) (en : ℕ → Option Ending) (r : Ending) → settled_as k place a en ≡ Some r → r.place ≡ place
settled_place (WhenAll args) place a en r e = ap place_in (sym e)
settled_place (WhenAny args) place a en r e = ap place_in (sym e)
settled_place k place a en r e = some_none r (sym e)

act_place : (g : TaskGraph) (t place : ℕ) (a : Actor) (x : Act) (re : ℕ → Rest) (st : ℕ → Bool) (en : ℕ → Option Ending) (r : Ending) → ending_by g t place a x re st en ≡ Some r → r.place ≡ place
act_place g t place a (Settle s) re st en r e = settled_place (kind g t) place (Some a) en r e
act_place g t place a x re st en r e = ap place_in (sym e)

-- no task has ended at a later place than that of the newest event
pub ended_within : (g : TaskGraph) (v : List Bool) (h : List Event) (t : ℕ) (r : Ending) → ending g v h t ≡ Some r → r.place ≤ length h
ended_within g v [] t r e = let none : r.place ≡ 0 = at_once_place (kind g t) r e in omega arith
ended_within g v (x ∷ h) t r e =
    elim (ending_new g v h x.actor x.act t r e) [
      | inl old ↦ let within = ended_within g v h t r old in omega arith
      | inr new ↦ let at = act_place g t (suc (length h)) x.actor x.act (rest g v h) (started g v h) (ending g v h) r new.1 in omega arith
    ]

pub longer : (later h : List Event) → length h ≤ length (later ++ h)
longer [] h = omega arith
longer (x ∷ later) h = let more = longer later h in omega arith

-- what ended at a place of h had ended in h
pub ended_then : (g : TaskGraph) (v : List Bool) (later h : List Event) (t : ℕ) (r : Ending) → ending g v (later ++ h) t ≡ Some r → r.place ≤ length h → ending g v h t ≡ Some r
ended_then g v [] h t r e early = e
ended_then g v (x ∷ later) h t r e early =
    elim (ending_new g v (later ++ h) x.actor x.act t r e) [
      | inl old ↦ ended_then g v later h t r old early
      | inr new ↦
          let at = act_place g t (suc (length (later ++ h))) x.actor x.act (rest g v (later ++ h)) (started g v (later ++ h)) (ending g v (later ++ h)) r new.1 in
          let more = longer later h in
          absurd (omega arith)
    ]

settled_stays : (g : TaskGraph) (v : List Bool) (later h : List Event) (t : ℕ) → IsGraph g → Run g v (later ++ h) → Settled g v h t → Settled g v (later ++ h) t
settled_stays g v [] h t valid run s = s
settled_stays g v (x ∷ later) h t valid run s = settled_kept g v (later ++ h) x.actor x.act t valid run.0 run.1 (settled_stays g v later h t valid run.0 s)

-- a child of a settled task that wasn't started is never started
unstarted_stays : (g : TaskGraph) (v : List Bool) (later h : List Event) (t p : ℕ) → IsGraph g → Run g v (later ++ h) → IsParent g p t → Settled g v h p → started g v h t ≡ false → started g v (later ++ h) t ≡ false
unstarted_stays g v [] h t p valid run par s n = n
unstarted_stays g v (x ∷ later) h t p valid run par s n =
    elim (cases_Bool (started g v (x ∷ later ++ h) t)) [
      | inl now ↦
          let old = started_before g v (later ++ h) x.actor x.act t p valid run.0 run.1 par (settled_stays g v later h p valid run.0 s) now in
          true_false (sym old ∙ unstarted_stays g v later h t p valid run.0 par s n)
      | inr none ↦ none
    ]

seen_whole : (g : TaskGraph) (v : List Bool) (later h : List Event) (t : ℕ) → IsGraph g → Run g v (later ++ h) → Settled g v h t → SettledBefore g v (later ++ h) (suc (length h)) t
seen_whole g v later h t valid run (ended e) =
    let r = the_some (ending g v h t) e in
    let within = ended_within g v h t r.0 r.1 in
    ended_before {e = r.0} ((nothing_goes_back_lem g v later h run).still_ended t r.0 r.1) (omega arith)
seen_whole g v later h t valid run (unstarted {p = p} k n par s) =
    never_started {p = p} (unstarted_stays g v later h t p valid run par s n) par (seen_whole g v later h p valid run s)

seen_then : (g : TaskGraph) (v : List Bool) (later h : List Event) (t : ℕ) → IsGraph g → Run g v (later ++ h) → SettledBefore g v (later ++ h) (suc (length h)) t → Settled g v h t
seen_then g v later h t valid run (ended_before {e = r} e early) = ended (is_some_of (ending g v h t) r (ended_then g v later h t r e (omega arith)))
seen_then g v later h t valid run (never_started {p = p} n par s) =
    unstarted {p = p} ((child_rules g p t valid par).child p par)
    (elim (cases_Bool (started g v h t)) [ inl b ↦ true_false (sym ((nothing_goes_back_lem g v later h run).still_started t b) ∙ n) | inr b ↦ b ])
    par (seen_then g v later h p valid run s)

-- nobody begins a task that has begun
pub begins_once : (g : TaskGraph) (v : List Bool) (h : List Event) (a : Actor) (x : Act) (b : ℕ) → Allows g v h a x → begun_by x b ≡ true → begun h b ≡ None
begins_once g v h a (Begin s) b al e = subst (λ z. begun h z ≡ None) (same_number s.0 b e) (waiting_facts g v h s.0 WaitingToRun al.1 (inl refl)).2
begins_once g v h a x b al e = true_false (sym e)

pub begun_once : (x : Event) (h : List Event) (b : ℕ) → begun (x ∷ h) b ≡ None → (begun_by x.act b ≡ false) × (begun h b ≡ None)
begun_once x h b e =
    elim (cases_Bool (begun_by x.act b)) [
      | inl now ↦ some_none x.actor (sym (if_true (begun_by x.act b) (Some x.actor) (begun h b) now) ∙ e)
      | inr none ↦ (none, sym (if_false (begun_by x.act b) (Some x.actor) (begun h b) none) ∙ e)
    ]

pub settled_without_begin_lem : SettledWithoutBegin
settled_without_begin_lem g v [] a b e = tt
settled_without_begin_lem g v (x ∷ h) a b e =
    let none = begun_once x h b e in
    (λ now. true_false (sym now ∙ none.0), settled_without_begin_lem g v h a b none.1)

has_begun : (later : List Event) (x : Event) (h : List Event) (b : ℕ) → begun_by x.act b ≡ true → begun (later ++ x ∷ h) b ≡ None → ⊥
has_begun [] x h b e none = true_false (sym e ∙ (begun_once x h b none).0)
has_begun (y ∷ later) x h b e none = has_begun later x h b e (begun_once y (later ++ x ∷ h) b none).1

-- b begins where x stands, and nowhere else
settled_there : (g : TaskGraph) (v : List Bool) (later : List Event) (x : Event) (h : List Event) (a b : ℕ) → begun_by x.act b ≡ true → SettledAtBegin g v a b (later ++ x ∷ h) → Settled g v h a
settled_there g v [] x h a b e s = s.0 e
settled_there g v (y ∷ later) x h a b e s = settled_there g v later x h a b e s.1

settled_each : (g : TaskGraph) (v : List Bool) (later : List Event) (x : Event) (h : List Event) (a b : ℕ) → Run g v (later ++ x ∷ h) → begun_by x.act b ≡ true → Settled g v h a → SettledAtBegin g v a b (later ++ x ∷ h)
settled_each g v [] x h a b run e s = (λ now. s, settled_without_begin_lem g v h a b (begins_once g v h x.actor x.act b run.1 e))
settled_each g v (y ∷ later) x h a b run e s =
    (λ now. absurd (has_begun later x h b e (begins_once g v (later ++ x ∷ h) y.actor y.act b run.1 now)), settled_each g v later x h a b run.0 e s)

one_more : (later : List Event) (x : Event) (h : List Event) → (later ++ x ∷ []) ++ h ≡ later ++ x ∷ h
one_more [] x h = refl
one_more (y ∷ later) x h = ap (λ z. y ∷ z) (one_more later x h)

pub settled_before_its_begin_lem : SettledBeforeItsBegin
settled_before_its_begin_lem g v later h x a b valid run e = (to, from)
  where
    same : (later ++ x ∷ []) ++ h ≡ later ++ x ∷ h
    same = one_more later x h

    run_too : Run g v ((later ++ x ∷ []) ++ h)
    run_too = subst (Run g v) (sym same) run

    to : SettledAtBegin g v a b (later ++ x ∷ h) → SettledBefore g v (later ++ x ∷ h) (suc (length h)) a
    to s = subst (λ z. SettledBefore g v z (suc (length h)) a) same (seen_whole g v (later ++ x ∷ []) h a valid run_too (settled_there g v later x h a b e s))

    from : SettledBefore g v (later ++ x ∷ h) (suc (length h)) a → SettledAtBegin g v a b (later ++ x ∷ h)
    from s = settled_each g v later x h a b run e (seen_then g v (later ++ x ∷ []) h a valid run_too (subst (λ z. SettledBefore g v z (suc (length h)) a) (sym same) s))
