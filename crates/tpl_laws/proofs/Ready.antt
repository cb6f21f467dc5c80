-- What has happened before a task begins or ends.
use Rattle.std.proofs.Common.{◌≡◌, ℕ, suc, ◌||◌, inl, inr, Bool, true, false, if◌then◌else◌, Option, Some, None, List, [], ◌∷◌, refl, sym, ap, ◌∙◌, subst, nat_eq, nat_lt, is_some, length}
use Rattle.std.proofs.lemmas.Bool.{cases_Bool, and_parts, or_cases}
use Rattle.tpl_model.proofs.MemberLemmas.{mem_there}
use Rattle.tpl_model.proofs.Truths.{true_false}
use Rattle.tpl_model.specs.declared.status.Status.TheVariants.{WaitingToRun}
use Rattle.tpl_model.specs.Members.{mem}
use Rattle.tpl_model.specs.Graph.{TaskGraph, TaskKind, Root, Child, Continues, WhenAll, WhenAny, kind, options, attached}
use Rattle.tpl_model.specs.declared.status.Actor.{Actor}
use Rattle.tpl_model.specs.declared.finals.Final.{Final}
use Rattle.tpl_model.specs.declared.event.Act.{Act}
use Rattle.tpl_model.specs.declared.event.Act.TheVariants.{Release, Begin, Leave, Close, Drop, Settle}
use Rattle.tpl_model.specs.declared.event.Event.{Event}
use Rattle.tpl_model.specs.Facts.{Ending, begun, released, released_by, left_body, left_by, ends_by, ending_by, all_over, rest, started, ending, first_ended, earlier, place_in, ended_at_once, settled_as}
use Rattle.tpl_model.specs.Options.{allows}
use Rattle.tpl_model.specs.Rules.{final, status, opening, MayDrop, MayStart, MayNotStart, MayCancel, Allows, Run, some_ended, can_settle}
use Rattle.tpl_laws.proofs.Basics.{if_false, some_none, some_of, some_and, the_some, same_number, mem_here}
use Rattle.tpl_laws.proofs.Kept.{id, after, running_facts, waiting_facts, close_facts, ending_new, ending_kept, final_kept, started_kept, begun_kept}

-- the antecedent of a continuation has ended in a way that its options allow, or don't
abbrev pub EndedSo : TaskGraph → List Bool → List Event → ℕ → ℕ → Bool → Type 0
EndedSo g v h c a allowed = (f : Final) × (final g v h a ≡ Some f) × (allows (options g c) f ≡ allowed)

pub may_start_so : (g : TaskGraph) (v : List Bool) (h : List Event) (c a : ℕ) → MayStart g v h c (Continues a) → EndedSo g v h c a true
may_start_so g v h c a m = some_of (final g v h a) (λ f. allows (options g c) f ≡ true) m

pub may_not_start_so : (g : TaskGraph) (v : List Bool) (h : List Event) (c a : ℕ) → MayNotStart g v h c (Continues a) → EndedSo g v h c a false
may_not_start_so g v h c a m = some_of (final g v h a) (λ f. allows (options g c) f ≡ false) m

ended_so_kept : (g : TaskGraph) (v : List Bool) (h : List Event) (a : Actor) (x : Act) (c s : ℕ) (allowed : Bool) → Allows g v h a x → EndedSo g v h c s allowed → EndedSo g v (after a x h) c s allowed
ended_so_kept g v h a x c s allowed al m = (m.0, final_kept g v h a x s m.0 al m.1, m.2)

pub may_start_kept : (g : TaskGraph) (v : List Bool) (h : List Event) (a : Actor) (x : Act) (c : ℕ) (k : TaskKind) → Allows g v h a x → MayStart g v h c k → MayStart g v (after a x h) c k
may_start_kept g v h a x c (Continues s) al m =
    let kept = ended_so_kept g v h a x c s true al (may_start_so g v h c s m) in
    some_and (final g v (after a x h) s) (λ f. allows (options g c) f ≡ true) kept.0 kept.1 kept.2
may_start_kept g v h a x c k al m = absurd m

-- a released task is a continuation whose antecedent has ended as its options allow
pub released_ready : (g : TaskGraph) (v : List Bool) (h : List Event) (c : ℕ) → Run g v h → released h c ≡ true → MayStart g v h c (kind g c)
released_ready g v [] c run e = true_false (sym e)
released_ready g v (e ∷ h) c run r =
    may_start_kept g v h e.actor e.act c (kind g c) run.1
    (elim (or_cases (released_by e.act c) (released h c) r) [ inl now ↦ here e.actor e.act run.1 now | inr old ↦ released_ready g v h c run.0 old ])
  where
    here : (a : Actor) (x : Act) → Allows g v h a x → released_by x c ≡ true → MayStart g v h c (kind g c)
    here a (Release d) al n = subst (λ z. MayStart g v h z (kind g z)) (same_number d.0 c n) al.2
    here a x al n = true_false (sym n)

-- what has happened before a task of this kind begins
abbrev pub Ready : TaskGraph → List Bool → List Event → ℕ → TaskKind → Type 0
Ready g v h t Root = Unit {0}
Ready g v h t Child = started g v h t ≡ true
Ready g v h t (Continues a) = EndedSo g v h t a true
Ready g v h t (WhenAll args) = ⊥
Ready g v h t (WhenAny args) = ⊥

-- it has a body
abbrev pub IsBody : TaskKind → Type 0
IsBody Root = Unit {0}
IsBody Child = Unit {0}
IsBody (Continues a) = Unit {0}
IsBody (WhenAll args) = ⊥
IsBody (WhenAny args) = ⊥

pub ready_body : (g : TaskGraph) (v : List Bool) (h : List Event) (t : ℕ) (k : TaskKind) → Ready g v h t k → IsBody k
ready_body g v h t (WhenAll args) r = r
ready_body g v h t (WhenAny args) r = r
ready_body g v h t k r = tt

ready_kept : (g : TaskGraph) (v : List Bool) (h : List Event) (a : Actor) (x : Act) (t : ℕ) (k : TaskKind) → Allows g v h a x → Ready g v h t k → Ready g v (after a x h) t k
ready_kept g v h a x t Root al r = tt
ready_kept g v h a x t Child al r = started_kept g v h a x t r
ready_kept g v h a x t (Continues s) al r = ended_so_kept g v h a x t s true al r
ready_kept g v h a x t (WhenAll args) al r = r
ready_kept g v h a x t (WhenAny args) al r = r

pub waiting_ready : (g : TaskGraph) (v : List Bool) (h : List Event) (t : ℕ) → Run g v h → status g v h t ≡ WaitingToRun → Ready g v h t (kind g t)
waiting_ready g v h t run e = by_kind (kind g t) (started g v h t) (released h t) (λ s. s) (released_ready g v h t run) (waiting_facts g v h t WaitingToRun e (inl refl)).3
  where
    by_kind : (k : TaskKind) (s r : Bool) → (s ≡ true → started g v h t ≡ true) → (r ≡ true → MayStart g v h t k) → opening k s r ≡ WaitingToRun → Ready g v h t k
    by_kind Root s r st rl o = tt
    by_kind Child true r st rl o = st refl
    by_kind Child false true st rl o = absurd (rl refl)
    by_kind Child false false st rl o = absurd (cc)
    by_kind (Continues a) s true st rl o = may_start_so g v h t a (rl refl)
    by_kind (WhenAll args) s true st rl o = rl refl
    by_kind (WhenAny args) s true st rl o = rl refl
    by_kind k s false st rl o = absurd (cc)

pub begun_ready : (g : TaskGraph) (v : List Bool) (h : List Event) (t : ℕ) → Run g v h → is_some (begun h t) ≡ true → Ready g v h t (kind g t)
begun_ready g v [] t run e = true_false (sym e)
begun_ready g v (e ∷ h) t run b = ready_kept g v h e.actor e.act t (kind g t) run.1 (here (λ o. begun_ready g v h t run.0 o) e.actor e.act run.1 b)
  where
    here : (is_some (begun h t) ≡ true → Ready g v h t (kind g t)) → (a : Actor) (x : Act) → Allows g v h a x → is_some (begun (after a x h) t) ≡ true → Ready g v h t (kind g t)
    here old a (Begin d) al n =
        elim (cases_Bool (nat_eq d.0 t)) [
          | inl q ↦ subst (λ z. Ready g v h z (kind g z)) (same_number d.0 t q) (waiting_ready g v h d.0 run.0 al.1)
          | inr q ↦ old (subst (λ z. is_some z ≡ true) (if_false (nat_eq d.0 t) (Some a) (begun h t) q) n)
        ]
    here old a x al n = old n

pub left_begun : (g : TaskGraph) (v : List Bool) (h : List Event) (t : ℕ) → Run g v h → left_body h t ≡ true → is_some (begun h t) ≡ true
left_begun g v [] t run e = true_false (sym e)
left_begun g v (e ∷ h) t run l =
    begun_kept h e.actor e.act t
    (elim (or_cases (left_by e.act t) (left_body h t) l) [ inl now ↦ here e.actor e.act run.1 now | inr old ↦ left_begun g v h t run.0 old ])
  where
    here : (a : Actor) (x : Act) → Allows g v h a x → left_by x t ≡ true → is_some (begun h t) ≡ true
    here a (Leave d) al n = subst (λ z. is_some (begun h z) ≡ true) (same_number d.0 t n) (running_facts g v h a d.0 al.0).2
    here a x al n = true_false (sym n)

-- only a task with a body begins, leaves, closes or is dropped
pub drop_body : (g : TaskGraph) (v : List Bool) (h : List Event) (t : ℕ) → Run g v h → MayDrop g v h t → IsBody (kind g t)
drop_body g v h t run d =
    elim d [
      | inl a ↦ ready_body g v h t (kind g t) (waiting_ready g v h t run a.0)
      | inr b ↦ elim b [ inl c ↦ cancels (kind g t) c.2 | inr c ↦ not_starts (kind g t) c.1 ]
    ]
  where
    cancels : (k : TaskKind) → MayCancel g v h t k → IsBody k
    cancels (WhenAll args) m = m
    cancels (WhenAny args) m = m
    cancels k m = tt

    not_starts : (k : TaskKind) → MayNotStart g v h t k → IsBody k
    not_starts (WhenAll args) m = m
    not_starts (WhenAny args) m = m
    not_starts k m = tt

pub begun_body : (g : TaskGraph) (v : List Bool) (h : List Event) (t : ℕ) → Run g v h → is_some (begun h t) ≡ true → IsBody (kind g t)
begun_body g v h t run b = ready_body g v h t (kind g t) (begun_ready g v h t run b)

-- what ends a WhenAll or WhenAny task is a Settle
pub settles : (g : TaskGraph) (v : List Bool) (h : List Event) (a : Actor) (x : Act) (t : ℕ) → Run g v h → Allows g v h a x → (IsBody (kind g t) → ⊥) → ends_by g t x (started g v h) (ending g v h) ≡ true → (x ≡ Settle (id t)) × (can_settle (kind g t) (ending g v h) ≡ true)
settles g v h a (Settle s) t run al nb e = (ap (λ z. Settle (id z)) (same_number s.0 t e), subst (λ z. can_settle (kind g z) (ending g v h) ≡ true) (same_number s.0 t e) al.2)
settles g v h a (Drop s) t run al nb e = absurd (nb (subst (λ z. IsBody (kind g z)) (same_number s.0 t e) (drop_body g v h s.0 run al.1)))
settles g v h a (Leave s) t run al nb e =
    absurd (nb (subst (λ z. IsBody (kind g z)) (same_number s.0 t (and_parts (nat_eq s.0 t) (all_over (attached g t) (started g v h) (ending g v h)) e).0) (begun_body g v h s.0 run (running_facts g v h a s.0 al.0).2)))
settles g v h a (Close s) t run al nb e =
    absurd (nb (subst (λ z. IsBody (kind g z)) (same_number s.0 t e) (begun_body g v h s.0 run (left_begun g v h s.0 run (close_facts g v h s.0 al.1).1))))
settles g v h a x t run al nb e = true_false (sym e)

-- the argument that ended first
abbrev pub FirstIs : List ℕ → (ℕ → Option Ending) → Option ℕ → Type 0
FirstIs args en None = some_ended args en ≡ false
FirstIs args en (Some s) = (mem s args ≡ true) × (is_some (en s) ≡ true)

pub first_is : (args : List ℕ) (en : ℕ → Option Ending) → FirstIs args en (first_ended args en)
first_is [] en = refl
first_is (x ∷ xs) en = go (en x) refl (first_ended xs en) (first_is xs en)
  where
    pick : (c : Bool) (best : ℕ) → FirstIs (x ∷ xs) en (Some best) → FirstIs (x ∷ xs) en (Some x) → FirstIs (x ∷ xs) en (if c then Some best else Some x)
    pick true best p q = p
    pick false best p q = q

    go : (o : Option Ending) → en x ≡ o → (b : Option ℕ) → FirstIs xs en b → FirstIs (x ∷ xs) en (earlier en x o b)
    go None p None w = subst (λ o. is_some o || some_ended xs en ≡ false) (sym p) w
    go None p (Some best) w = (mem_there best x xs w.0, w.1)
    go (Some r) p None w = (mem_here x x xs refl, ap is_some p)
    go (Some r) p (Some best) w = pick (nat_lt (place_in (en best)) r.place) best (mem_there best x xs w.0, w.1) (mem_here x x xs refl, ap is_some p)

-- the winner of a WhenAny task that has ended is an argument that has ended
pub any_winner : (g : TaskGraph) (v : List Bool) (h : List Event) (t : ℕ) (args : List ℕ) (r : Ending) → Run g v h → kind g t ≡ WhenAny args → ending g v h t ≡ Some r → (s : ℕ) × (q : Ending) × (r.winner ≡ Some s) × (mem s args ≡ true) × (ending g v h s ≡ Some q)
any_winner g v [] t args r run k e = some_none r (sym e ∙ ap ended_at_once k)
any_winner g v (e ∷ h) t args r run k n = here (λ o. any_winner g v h t args r run.0 k o) e.actor e.act run.1 n
  where
    no_body : IsBody (kind g t) → ⊥
    no_body b = subst IsBody k b

    won : (a : Actor) (x : Act) → (o : Option ℕ) → first_ended args (ending g v h) ≡ o → FirstIs args (ending g v h) o → some_ended args (ending g v h) ≡ true → r.winner ≡ o → (s : ℕ) × (q : Ending) × (r.winner ≡ Some s) × (mem s args ≡ true) × (ending g v h s ≡ Some q)
    won a x None p w c f = true_false (sym c ∙ w)
    won a x (Some s) p w c f = let q = the_some (ending g v h s) w.1 in (s, q.0, f, w.0, q.1)

    by_settle : (a : Actor) (k2 : TaskKind) → kind g t ≡ k2 → k2 ≡ WhenAny args → can_settle k2 (ending g v h) ≡ true → settled_as k2 (suc (length h)) (Some a) (ending g v h) ≡ Some r → (s : ℕ) × (q : Ending) × (r.winner ≡ Some s) × (mem s args ≡ true) × (ending g v h s ≡ Some q)
    by_settle a k2 p q c m =
        let c' = subst (λ z. can_settle z (ending g v h) ≡ true) q c in
        let m' = subst (λ z. settled_as z (suc (length h)) (Some a) (ending g v h) ≡ Some r) q m in
        let w : first_ended args (ending g v h) ≡ r.winner = cc in
        won a (Settle (id t)) (first_ended args (ending g v h)) refl (first_is args (ending g v h)) c' (sym w)

    here : (ending g v h t ≡ Some r → (s : ℕ) × (q : Ending) × (r.winner ≡ Some s) × (mem s args ≡ true) × (ending g v h s ≡ Some q)) → (a : Actor) (x : Act) → Allows g v h a x → ending g v (after a x h) t ≡ Some r → (s : ℕ) × (q : Ending) × (r.winner ≡ Some s) × (mem s args ≡ true) × (ending g v (after a x h) s ≡ Some q)
    here before a x al m =
        elim (ending_new g v h a x t r m) [
          | inl old ↦ let w = before old in (w.0, w.1, w.2, w.3, ending_kept g v h a x w.0 w.1 al w.4)
          | inr new ↦
              let se = settles g v h a x t run.0 al no_body new.0 in
              let m2 = subst (λ z. ending_by g t (suc (length h)) a z (rest g v h) (started g v h) (ending g v h) ≡ Some r) se.0 new.1 in
              let w = by_settle a (kind g t) refl k se.1 m2 in
              (w.0, w.1, w.2, w.3, ending_kept g v h a x w.0 w.1 al w.4)
        ]
