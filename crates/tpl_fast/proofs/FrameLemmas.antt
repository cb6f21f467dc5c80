-- What an event leaves as it was.
use Rattle.std.proofs.Common.{◌≡◌, ℕ, suc, ◌&&◌, ◌||◌, Bool, true, false, List, [], ◌∷◌, length, Option, Some, None, inl, inr, refl, sym, ap, ◌∙◌, subst, not, nat_eq, is_some}
use Rattle.std.specs.Prelude.{◌↔◌, if◌then◌else◌, IsSomeAnd}
use Rattle.std.proofs.lemmas.Bool.{eqb-true}
use Rattle.tpl_model.proofs.MemberLemmas.{same_self, mem_here, mem_there}
use Rattle.tpl_model.proofs.Truths.{true_false}
use Rattle.tpl_model.specs.Members.{mem}
use Rattle.tpl_model.specs.Options.{allows}
use Rattle.tpl_model.specs.declared.ids.TaskId.{TaskId}
use Rattle.tpl_model.specs.declared.status.Actor.{Actor}
use Rattle.tpl_model.specs.declared.event.Act.{Act}
use Rattle.tpl_model.specs.declared.event.Act.TheVariants.{Request, Release, Begin, Step, Worked, Leave, Close, Drop, Settle}
use Rattle.tpl_model.specs.declared.event.Event.{Event}
use Rattle.tpl_model.specs.Graph.{TaskGraph, TaskKind, Root, Child, Continues, WhenAll, WhenAny, kind, task, options, attached}
use Rattle.tpl_model.specs.Facts.{Ending, begun, released, left_body, ending, started, rest, requested, all_over, final_in}
use Rattle.tpl_model.specs.Rules.{status, status_by, opening, token_requested, token_requested_by, MayStart, MayNotStart, MayCancel, all_ended, some_ended, can_settle, Allows, to_end}
use Rattle.tpl_laws.specs.RunTests.{has_ended}
use Rattle.tpl_laws.specs.RowTests.{implies}
use Rattle.tpl_run.specs.Rows.{is_it}
use Rattle.tpl_fast.specs.declared.marks.Mark.{Mark}
use Rattle.tpl_fast.specs.Marks.{acting, mark_at, noted}
use Rattle.tpl_fast.specs.Tokens.{starting}
use Rattle.tpl_run.specs.Reading.{due_task, HasDue}
use Rattle.tpl_fast.specs.Due.{awaits, waits, ender}
use Rattle.tpl_fast.proofs.MarkLemmas.{mark_step}
use Rattle.tpl_fast.proofs.StateLemmas.{ending_same, ending_kept}
use Rattle.tpl_fast.proofs.TokenLemmas.{act_is}

not_it : (o : Option ℕ) (t : ℕ) → (o ≡ Some t → ⊥) → is_it o t ≡ false
not_it None t other = refl
not_it (Some s) t other = go (nat_eq s t) refl
  where
    go : (b : Bool) → nat_eq s t ≡ b → b ≡ false
    go true q = absurd (other (ap Some (eqb-true s t q)))
    go false q = refl

same_all : (xs : List ℕ) (e e' : ℕ → Option Ending) → ((x : ℕ) → mem x xs ≡ true → e' x ≡ e x) → all_ended xs e' ≡ all_ended xs e
same_all [] e e' same = refl
same_all (x ∷ xs) e e' same = ap (λ o. is_some o && all_ended xs e') (same x (mem_here x xs)) ∙ ap (λ b. is_some (e x) && b) (same_all xs e e' (λ y m. same y (mem_there y x xs m)))

same_some : (xs : List ℕ) (e e' : ℕ → Option Ending) → ((x : ℕ) → mem x xs ≡ true → e' x ≡ e x) → some_ended xs e' ≡ some_ended xs e
same_some [] e e' same = refl
same_some (x ∷ xs) e e' same = ap (λ o. is_some o || some_ended xs e') (same x (mem_here x xs)) ∙ ap (λ b. is_some (e x) || b) (same_some xs e e' (λ y m. same y (mem_there y x xs m)))

same_over : (xs : List ℕ) (s s' : ℕ → Bool) (e e' : ℕ → Option Ending) → ((x : ℕ) → mem x xs ≡ true → s' x ≡ s x) → ((x : ℕ) → mem x xs ≡ true → e' x ≡ e x) → all_over xs s' e' ≡ all_over xs s e
same_over [] s s' e e' begun same = refl
same_over (x ∷ xs) s s' e e' begun same =
    ap (λ b. (not b || is_some (e' x)) && all_over xs s' e') (begun x (mem_here x xs))
    ∙ (ap (λ o. (not (s x) || is_some o) && all_over xs s' e') (same x (mem_here x xs))
    ∙ ap (λ b. (not (s x) || is_some (e x)) && b) (same_over xs s s' e e' (λ y m. begun y (mem_there y x xs m)) (λ y m. same y (mem_there y x xs m))))

same_settle : (k : TaskKind) (e e' : ℕ → Option Ending) → ((x : ℕ) → awaits k x ≡ true → e' x ≡ e x) → can_settle k e' ≡ can_settle k e
same_settle Root e e' same = refl
same_settle Child e e' same = refl
same_settle (Continues a) e e' same = refl
same_settle (WhenAll args) e e' same = same_all args e e' same
same_settle (WhenAny args) e e' same = same_some args e e' same

same_token : (o : Option ℕ) (r r' : ℕ → Bool) → ((k : ℕ) → o ≡ Some k → r' k ≡ r k) → token_requested_by o r' ≡ token_requested_by o r
same_token None r r' same = refl
same_token (Some k) r r' same = same k refl

-- after both lists of events stands the same of t, of what it waits for, and of its token
record SaysSame (g : TaskGraph) (v : List Bool) (h later : List Event) (t : ℕ) : Type 0 where
  own : ending g v later t ≡ ending g v h t
  status : status g v later t ≡ status g v h t
  awaited : (x : ℕ) → awaits (kind g t) x ≡ true → ending g v later x ≡ ending g v h x
  token : token_requested g v later t ≡ token_requested g v h t
  over : all_over (attached g t) (started g v later) (ending g v later) ≡ all_over (attached g t) (started g v h) (ending g v h)

turned : (g : TaskGraph) (v : List Bool) (h later : List Event) (t : ℕ) → SaysSame g v h later t → SaysSame g v later h t
turned g v h later t s = record { own = sym s.own; status = sym s.status; awaited = λ x w. sym (s.awaited x w); token = sym s.token; over = sym s.over }

-- so what is due after the one is due after the other
module _ (g : TaskGraph) (v : List Bool) (h later : List Event) where
  kind_kept : (t : ℕ) (k : TaskKind) → ((x : ℕ) → awaits k x ≡ true → ending g v later x ≡ ending g v h x)
      → (MayStart g v h t k → MayStart g v later t k) × (MayNotStart g v h t k → MayNotStart g v later t k) × (MayCancel g v h t k → MayCancel g v later t k)
  kind_kept t Root same = (λ m. m, λ m. m, λ m. m)
  kind_kept t Child same = (λ m. m, λ m. m, λ m. m)
  kind_kept t (Continues a) same =
      let end : ending g v later a ≡ ending g v h a = same a (same_self a) in
      (subst (λ o. IsSomeAnd (final_in o) (λ f. allows (options g t) f ≡ true)) (sym end), subst (λ o. IsSomeAnd (final_in o) (λ f. allows (options g t) f ≡ false)) (sym end), cancel end)
    where
      cancel : ending g v later a ≡ ending g v h a → MayCancel g v h t (Continues a) → MayCancel g v later t (Continues a)
      cancel end (inl m) = inl m
      cancel end (inr m) = inr (ap (λ o. is_some (final_in o)) end ∙ m)
  kind_kept t (WhenAll args) same = (λ m. m, λ m. m, λ m. m)
  kind_kept t (WhenAny args) same = (λ m. m, λ m. m, λ m. m)

  release_kept : (actor : Actor) (x : TaskId) → SaysSame g v h later x.0 → Allows g v h actor (Release x) → Allows g v later actor (Release x)
  release_kept actor x s p = (p.0, s.status ∙ p.1, (kind_kept x.0 (kind g x.0) s.awaited).0 p.2, s.token ∙ p.3)

  drop_kept : (actor : Actor) (x : TaskId) → SaysSame g v h later x.0 → Allows g v h actor (Drop x) → Allows g v later actor (Drop x)
  drop_kept actor x s (lt, inl p) = (lt, inl (s.status ∙ p.0, s.token ∙ p.1))
  drop_kept actor x s (lt, inr (inl p)) = (lt, inr (inl (s.status ∙ p.0, s.token ∙ p.1, (kind_kept x.0 (kind g x.0) s.awaited).2 p.2)))
  drop_kept actor x s (lt, inr (inr p)) = (lt, inr (inr (s.status ∙ p.0, (kind_kept x.0 (kind g x.0) s.awaited).1 p.1)))

  close_kept : (actor : Actor) (x : TaskId) → SaysSame g v h later x.0 → Allows g v h actor (Close x) → Allows g v later actor (Close x)
  close_kept actor x s p = (p.0, s.status ∙ p.1, s.over ∙ p.2)

  settle_kept : (actor : Actor) (x : TaskId) → SaysSame g v h later x.0 → Allows g v h actor (Settle x) → Allows g v later actor (Settle x)
  settle_kept actor x s p = (p.0, ap is_some s.own ∙ p.1, same_settle (kind g x.0) (ending g v h) (ending g v later) s.awaited ∙ p.2)

  says : (t : ℕ) (x : TaskId) → Some x.0 ≡ Some t → SaysSame g v h later t → SaysSame g v h later x.0
  says t x same s = let e : t ≡ x.0 = cc in subst (SaysSame g v h later) e s

  act_kept : (t : ℕ) (actor : Actor) (act : Act) → due_task act ≡ Some t → SaysSame g v h later t → Allows g v h actor act → Allows g v later actor act
  act_kept t actor (Release x) e s p = release_kept actor x (says t x e s) p
  act_kept t actor (Drop x) e s p = drop_kept actor x (says t x e s) p
  act_kept t actor (Close x) e s p = close_kept actor x (says t x e s) p
  act_kept t actor (Settle x) e s p = settle_kept actor x (says t x e s) p
  act_kept t actor (Request k) e s p = absurd (cc)
  act_kept t actor (Begin x) e s p = absurd (cc)
  act_kept t actor (Step x) e s p = absurd (cc)
  act_kept t actor (Worked x y) e s p = absurd (cc)
  act_kept t actor (Leave x) e s p = absurd (cc)

  due_kept : (t : ℕ) → SaysSame g v h later t → HasDue g v h t → HasDue g v later t
  due_kept t s (act, due) = (act, record { of_task = due.of_task; task = due.task; allowed = λ actor. act_kept t actor act due.of_task s (due.allowed actor) })

module _ (g : TaskGraph) (v : List Bool) (h : List Event) (e : Event) where
  pub started_same : (c : ℕ) → (starting e.act (rest g v h) ≡ Some c → ⊥) → started g v (e ∷ h) c ≡ started g v h c
  started_same c other = ap (λ b. b || started g v h c) ((act_is g v h c e.act).1 ∙ not_it (starting e.act (rest g v h)) c other)

  mark_same : (t : ℕ) → (acting e.act ≡ Some t → ⊥) → mark_at (e ∷ h) t ≡ mark_at h t
  mark_same t other = mark_step e.actor e.act h t ∙ ap (λ (b : Bool). if b then noted e.actor (suc (length h)) e.act (mark_at h t) else mark_at h t) (not_it (acting e.act) t other)

  -- the event says nothing of t, of what it waits for, or of its token
  pub record Untouched (t : ℕ) : Type 0 where
    pub other : acting e.act ≡ Some t → ⊥
    pub unstarted : starting e.act (rest g v h) ≡ Some t → ⊥
    pub apart : (x : ℕ) → ender e.act ≡ Some x → waits g t x ≡ true → ⊥
    pub childless : (x : ℕ) → starting e.act (rest g v h) ≡ Some x → waits g t x ≡ true → ⊥
    pub token : (k : ℕ) → (task g t).token ≡ Some k → requested g v (e ∷ h) k ≡ requested g v h k

  module _ (t : ℕ) (u : Untouched t) where
    own_ending : ending g v (e ∷ h) t ≡ ending g v h t
    own_ending = ending_kept g v h e t u.other

    status_same : status g v (e ∷ h) t ≡ status g v h t
    status_same =
        ap (λ o. status_by o (left_body (e ∷ h) t) (begun (e ∷ h) t) (opening (kind g t) (started g v (e ∷ h) t) (released (e ∷ h) t))) own_ending
        ∙ (ap (λ b. status_by (ending g v h t) (left_body (e ∷ h) t) (begun (e ∷ h) t) (opening (kind g t) b (released (e ∷ h) t))) (started_same t u.unstarted)
        ∙ ap (λ (m : Mark). status_by (ending g v h t) m.left m.begun (opening (kind g t) (started g v h t) m.released)) (mark_same t u.other))

    or_left : (b c : Bool) → b ≡ true → (b || c) ≡ true
    or_left true c q = refl
    or_left false c q = true_false (sym q)

    or_right : (b c : Bool) → c ≡ true → (b || c) ≡ true
    or_right true c q = refl
    or_right false c q = q

    waited : (x : ℕ) → waits g t x ≡ true → ending g v (e ∷ h) x ≡ ending g v h x
    waited x w = ending_same g v h e x (λ is. u.apart x is w)

    by_kind : (x : ℕ) → awaits (kind g t) x ≡ true → ending g v (e ∷ h) x ≡ ending g v h x
    by_kind x w = waited x (or_left (awaits (kind g t) x) (mem x (attached g t)) w)

    by_child : (x : ℕ) → mem x (attached g t) ≡ true → waits g t x ≡ true
    by_child x m = or_right (awaits (kind g t) x) (mem x (attached g t)) m

    token_same : token_requested g v (e ∷ h) t ≡ token_requested g v h t
    token_same = same_token (task g t).token (requested g v h) (requested g v (e ∷ h)) u.token

    over_same : all_over (attached g t) (started g v (e ∷ h)) (ending g v (e ∷ h)) ≡ all_over (attached g t) (started g v h) (ending g v h)
    over_same = same_over (attached g t) (started g v h) (started g v (e ∷ h)) (ending g v h) (ending g v (e ∷ h)) (λ x m. started_same x (λ is. u.childless x is (by_child x m))) (λ x m. waited x (by_child x m))

    says_same : SaysSame g v h (e ∷ h) t
    says_same = record { own = own_ending; status = status_same; awaited = by_kind; token = token_same; over = over_same }

    pub due_same : HasDue g v (e ∷ h) t ↔ HasDue g v h t
    due_same = (due_kept g v (e ∷ h) h t (turned g v h (e ∷ h) t says_same), due_kept g v h (e ∷ h) t says_same)

  pub done_same : (t : ℕ) → (acting e.act ≡ Some t → ⊥) → (starting e.act (rest g v h) ≡ Some t → ⊥) → has_ended g v (e ∷ h) t ≡ has_ended g v h t
  done_same t other unstarted =
      ap (λ b. implies (to_end (kind g t) b) (is_some (ending g v (e ∷ h) t))) (started_same t unstarted)
      ∙ ap (λ o. implies (to_end (kind g t) (started g v h t)) (is_some o)) (ending_kept g v h e t other)
