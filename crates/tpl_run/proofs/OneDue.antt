-- A task never has two acts that are due.
use Rattle.std.proofs.Common.{◌≡◌, ℕ, ◌⊎◌, inl, inr, Bool, true, false, List, [], ◌∷◌, Option, Some, None, refl, sym, ap, ◌∙◌, subst}
use Rattle.std.specs.Prelude.{if◌then◌else◌, IsSomeAnd}
use Rattle.std.proofs.lemmas.Bool.{or_from}
use Rattle.tpl_model.proofs.MemberLemmas.{not_same}
use Rattle.tpl_model.specs.Options.{allows}
use Rattle.tpl_model.specs.declared.finals.Final.{Final}
use Rattle.tpl_model.specs.declared.ids.TaskId.{TaskId}
use Rattle.tpl_model.specs.declared.status.Actor.{Actor}
use Rattle.tpl_model.specs.declared.status.Actor.TheVariants.{Outside}
use Rattle.tpl_model.specs.declared.status.Status.{Status}
use Rattle.tpl_model.specs.declared.status.Status.TheVariants.{WaitingForActivation, WaitingToRun, WaitingForChildrenToComplete}
use Rattle.tpl_model.specs.declared.event.Act.{Act}
use Rattle.tpl_model.specs.declared.event.Act.TheVariants.{Request, Release, Begin, Step, Worked, Leave, Close, Drop, Settle}
use Rattle.tpl_model.specs.declared.event.Event.{Event}
use Rattle.tpl_model.specs.Graph.{TaskGraph, TaskKind, Root, Child, Continues, WhenAll, WhenAny, kind, options}
use Rattle.tpl_model.specs.Facts.{Ending, begun_by, begun, released_by, released, left_by, left_body, started, ending}
use Rattle.tpl_model.specs.Rules.{final, status, status_by, opening, MayStart, MayNotStart, MayCancel, can_settle, Allows, Run}
use Rattle.tpl_run.specs.Reading.{IsDue}
use Rattle.tpl_run.specs.Due.{OneIsDue}

if_none : (c : Bool) (x : Actor) (o : Option Actor) → c ≡ false → o ≡ None → (if c then Some x else o) ≡ None
if_none true x o p q = absurd (cc)
if_none false x o p q = q

-- a WhenAll or WhenAny task: it has no body
abbrev bare : TaskKind → Bool
bare Root = false
bare Child = false
bare (Continues a) = false
bare (WhenAll args) = true
bare (WhenAny args) = true

-- what holds of both kinds without a body holds of a task without one
by_bare : (P : TaskKind → Type 0) → ((args : List ℕ) → P (WhenAll args)) → ((args : List ℕ) → P (WhenAny args)) → (k : TaskKind) → bare k ≡ true → P k
by_bare P all any Root b = absurd (cc)
by_bare P all any Child b = absurd (cc)
by_bare P all any (Continues a) b = absurd (cc)
by_bare P all any (WhenAll args) b = all args
by_bare P all any (WhenAny args) b = any args

settles_bare : (k : TaskKind) (en : ℕ → Option Ending) → can_settle k en ≡ true → bare k ≡ true
settles_bare Root en e = absurd (cc)
settles_bare Child en e = absurd (cc)
settles_bare (Continues a) en e = absurd (cc)
settles_bare (WhenAll args) en e = refl
settles_bare (WhenAny args) en e = refl

opens_waiting : (k : TaskKind) (s : Bool) → bare k ≡ true → opening k s false ≡ WaitingForActivation
opens_waiting k s = by_bare (λ x. opening x s false ≡ WaitingForActivation) (λ args. refl) (λ args. refl) k

ready_of : (en : Option Ending) (l : Bool) (b : Option Actor) (o : Status) → status_by en l b o ≡ WaitingToRun → o ≡ WaitingToRun
ready_of (Some e) l b o p = absurd (cc)
ready_of None true b o p = absurd (cc)
ready_of None false (Some x) o p = absurd (cc)
ready_of None false None o p = p

left_of : (en : Option Ending) (l : Bool) (b : Option Actor) (o : Status) → status_by en l b o ≡ WaitingForChildrenToComplete → o ≡ WaitingForActivation → l ≡ true
left_of (Some e) l b o p q = absurd (cc)
left_of None true b o p q = refl
left_of None false (Some x) o p q = absurd (cc)
left_of None false None o p q = absurd (cc)

module _ (g : TaskGraph) (v : List Bool) where
  no_start : (h : List Event) (c : ℕ) (k : TaskKind) → bare k ≡ true → MayStart g v h c k → ⊥
  no_start h c = by_bare (λ k. MayStart g v h c k → ⊥) (λ args m. m) (λ args m. m)

  no_exclusion : (h : List Event) (c : ℕ) (k : TaskKind) → bare k ≡ true → MayNotStart g v h c k → ⊥
  no_exclusion h c = by_bare (λ k. MayNotStart g v h c k → ⊥) (λ args m. m) (λ args m. m)

  no_cancel : (h : List Event) (c : ℕ) (k : TaskKind) → bare k ≡ true → MayCancel g v h c k → ⊥
  no_cancel h c = by_bare (λ k. MayCancel g v h c k → ⊥) (λ args m. m) (λ args m. m)

  start_or_not : (h : List Event) (c : ℕ) (k : TaskKind) → MayStart g v h c k → MayNotStart g v h c k → ⊥
  start_or_not h c Root m n = m
  start_or_not h c Child m n = m
  start_or_not h c (Continues a) m n = clash (final g v h a) m n
    where
      clash : (o : Option Final) → IsSomeAnd o (λ f. allows (options g c) f ≡ true) → IsSomeAnd o (λ f. allows (options g c) f ≡ false) → ⊥
      clash None m n = m
      clash (Some f) m n = cc
  start_or_not h c (WhenAll args) m n = m
  start_or_not h c (WhenAny args) m n = m

  not_ready : (h : List Event) (t : ℕ) → bare (kind g t) ≡ true → released h t ≡ false → status g v h t ≡ WaitingToRun → ⊥
  not_ready h t b off st =
      let o = ready_of (ending g v h t) (left_body h t) (begun h t) (opening (kind g t) (started g v h t) (released h t)) st in
      let w = opens_waiting (kind g t) (started g v h t) b in
      let u = subst (λ z. opening (kind g t) (started g v h t) z ≡ WaitingToRun) off o in
      cc

  -- such a task isn't released, begun or left by an act that is allowed
  stays_idle : (h : List Event) (actor : Actor) (act : Act) (t : ℕ) → bare (kind g t) ≡ true → released h t ≡ false → begun h t ≡ None → Allows g v h actor act
      → (released_by act t ≡ false) × (begun_by act t ≡ false) × (left_by act t ≡ false)
  stays_idle h actor (Release s) t b off none al = (not_same s.0 t (λ same. no_start h s.0 (kind g s.0) (subst (λ z. bare (kind g z) ≡ true) (sym same) b) al.2), refl, refl)
  stays_idle h actor (Begin s) t b off none al = (refl, not_same s.0 t (λ same. not_ready h t b off (subst (λ z. status g v h z ≡ WaitingToRun) same al.1)), refl)
  stays_idle h actor (Leave s) t b off none al = (refl, refl, not_same s.0 t (λ same. let some = subst (λ z. begun h z ≡ Some actor) same al.0.worker in cc))
  stays_idle h actor (Request k) t b off none al = (refl, refl, refl)
  stays_idle h actor (Step s) t b off none al = (refl, refl, refl)
  stays_idle h actor (Worked s w) t b off none al = (refl, refl, refl)
  stays_idle h actor (Close s) t b off none al = (refl, refl, refl)
  stays_idle h actor (Drop s) t b off none al = (refl, refl, refl)
  stays_idle h actor (Settle s) t b off none al = (refl, refl, refl)

  -- such a task is never released, begun or left
  idle : (h : List Event) → Run g v h → (t : ℕ) → bare (kind g t) ≡ true → (released h t ≡ false) × (begun h t ≡ None) × (left_body h t ≡ false)
  idle [] r t b = (refl, refl, refl)
  idle (e ∷ h) r t b =
      let i = idle h r.0 t b in
      let now = stays_idle h e.actor e.act t b i.0 i.1 r.1 in (
        or_from (released_by e.act t) (released h t) now.0 i.0,
        if_none (begun_by e.act t) e.actor (begun h t) now.1 i.1,
        or_from (left_by e.act t) (left_body h t) now.2 i.2,
      )

  module _ (h : List Event) (t : ℕ) where
    -- the act of this task is allowed, to somebody outside too
    abbrev May : (TaskId → Act) → Type 0
    May act = Allows g v h (Outside 0) (act (record { 0 = t }))

    abbrev Way : Act → (TaskId → Act) → Type 0
    Way a act = (a ≡ act (record { 0 = t })) × May act

    way : (act : TaskId → Act) (x : TaskId) → Some x.0 ≡ Some t → Allows g v h (Outside 0) (act x) → Way (act x) act
    way act x e al = let same : x.0 ≡ t = cc in (ap (λ n. act (record { 0 = n })) same, subst (λ n. Allows g v h (Outside 0) (act (record { 0 = n }))) same al)

    abbrev Ways : Act → Type 0
    Ways a = Way a Release ⊎ Way a Drop ⊎ Way a Close ⊎ Way a Settle

    ways : (a : Act) → IsDue g v h t a → Ways a
    ways (Release x) d = inl (way Release x d.of_task (d.allowed (Outside 0)))
    ways (Drop x) d = inr (inl (way Drop x d.of_task (d.allowed (Outside 0))))
    ways (Close x) d = inr (inr (inl (way Close x d.of_task (d.allowed (Outside 0)))))
    ways (Settle x) d = inr (inr (inr (way Settle x d.of_task (d.allowed (Outside 0)))))
    ways (Request k) d = let e = d.of_task in absurd (cc)
    ways (Begin x) d = let e = d.of_task in absurd (cc)
    ways (Step x) d = let e = d.of_task in absurd (cc)
    ways (Worked x w) d = let e = d.of_task in absurd (cc)
    ways (Leave x) d = let e = d.of_task in absurd (cc)

    release_drop : May Release → May Drop → ⊥
    release_drop p (_, inl q) = let a = p.1 in let b = q.0 in cc
    release_drop p (_, inr (inl q)) = let a = p.3 in let b = q.1 in cc
    release_drop p (_, inr (inr q)) = start_or_not h t (kind g t) p.2 q.1

    release_close : May Release → May Close → ⊥
    release_close p q = let a = p.1 in let b = q.1 in cc

    drop_close : May Drop → May Close → ⊥
    drop_close (_, inl p) q = let a = p.0 in let b = q.1 in cc
    drop_close (_, inr (inl p)) q = let a = p.0 in let b = q.1 in cc
    drop_close (_, inr (inr p)) q = let a = p.0 in let b = q.1 in cc

    release_settle : May Release → May Settle → ⊥
    release_settle p q = no_start h t (kind g t) (settles_bare (kind g t) (ending g v h) q.2) p.2

    drop_settle : Run g v h → May Drop → May Settle → ⊥
    drop_settle r (_, inl p) q = let b = settles_bare (kind g t) (ending g v h) q.2 in not_ready h t b (idle h r t b).0 p.0
    drop_settle r (_, inr (inl p)) q = no_cancel h t (kind g t) (settles_bare (kind g t) (ending g v h) q.2) p.2
    drop_settle r (_, inr (inr p)) q = no_exclusion h t (kind g t) (settles_bare (kind g t) (ending g v h) q.2) p.1

    close_settle : Run g v h → May Close → May Settle → ⊥
    close_settle r p q =
        let b = settles_bare (kind g t) (ending g v h) q.2 in
        let i = idle h r t b in
        let w = opens_waiting (kind g t) (started g v h t) b in
        let o = subst (λ z. opening (kind g t) (started g v h t) z ≡ WaitingForActivation) (sym i.0) w in
        let on = left_of (ending g v h t) (left_body h t) (begun h t) (opening (kind g t) (started g v h t) (released h t)) p.1 o in
        let off = i.2 in
        cc

    two : (a b : Act) → Run g v h → Ways a → Ways b → a ≡ b
    two a b r (inl p) (inl q) = p.0 ∙ sym q.0
    two a b r (inl p) (inr (inl q)) = absurd (release_drop p.1 q.1)
    two a b r (inl p) (inr (inr (inl q))) = absurd (release_close p.1 q.1)
    two a b r (inl p) (inr (inr (inr q))) = absurd (release_settle p.1 q.1)
    two a b r (inr (inl p)) (inl q) = absurd (release_drop q.1 p.1)
    two a b r (inr (inl p)) (inr (inl q)) = p.0 ∙ sym q.0
    two a b r (inr (inl p)) (inr (inr (inl q))) = absurd (drop_close p.1 q.1)
    two a b r (inr (inl p)) (inr (inr (inr q))) = absurd (drop_settle r p.1 q.1)
    two a b r (inr (inr (inl p))) (inl q) = absurd (release_close q.1 p.1)
    two a b r (inr (inr (inl p))) (inr (inl q)) = absurd (drop_close q.1 p.1)
    two a b r (inr (inr (inl p))) (inr (inr (inl q))) = p.0 ∙ sym q.0
    two a b r (inr (inr (inl p))) (inr (inr (inr q))) = absurd (close_settle r p.1 q.1)
    two a b r (inr (inr (inr p))) (inl q) = absurd (release_settle q.1 p.1)
    two a b r (inr (inr (inr p))) (inr (inl q)) = absurd (drop_settle r q.1 p.1)
    two a b r (inr (inr (inr p))) (inr (inr (inl q))) = absurd (close_settle r q.1 p.1)
    two a b r (inr (inr (inr p))) (inr (inr (inr q))) = p.0 ∙ sym q.0

pub one_due : OneIsDue
one_due g v h t a b r p q = two g v h t a b r (ways g v h t a p) (ways g v h t b q)
