-- How each task of a run is bound to end, by what has ended so far.
use Rattle.std.proofs.Common.{◌≡◌, ℕ, zero, suc, ◌<◌, ◌||◌, ◌⊎◌, inl, inr, not, Bool, true, false, if◌then◌else◌, Option, Some, None, List, [], ◌∷◌, refl, sym, ap, ◌∙◌, subst, arith, nat_eq, is_some, length}
use Rattle.std.proofs.lemmas.Option.{same_Some}
use Rattle.std.proofs.lemmas.Bool.{cases_Bool, and_parts, and_from, or_left, or_right}
use Rattle.tpl_model.proofs.MemberLemmas.{mem_split, mem_there}
use Rattle.tpl_model.proofs.Truths.{true_false}
use Rattle.tpl_model.specs.declared.finals.Final.{Final}
use Rattle.tpl_model.specs.declared.finals.Final.TheVariants.{RanToCompletion, Canceled, Faulted}
use Rattle.tpl_model.specs.Members.{mem}
use Rattle.tpl_model.specs.Options.{allows}
use Rattle.tpl_model.specs.Graph.{TaskGraph, TaskKind, Root, Child, Continues, WhenAll, WhenAny, kind, options}
use Rattle.tpl_model.specs.declared.status.Actor.{Actor}
use Rattle.tpl_model.specs.declared.event.Act.{Act}
use Rattle.tpl_model.specs.declared.event.Event.{Event}
use Rattle.tpl_model.specs.Facts.{Ending, ending, ended_at_once, final_in, all_final, worse, settled_as}
use Rattle.tpl_model.specs.Rules.{final, Allows, Run, can_settle, all_ended}
use Rattle.tpl_model.specs.Valid.{IsGraph, ArePlaced, IsPlaced}
use Rattle.tpl_model.specs.Certificate.{end_left}
use Rattle.tpl_model.specs.TokenRules.{LeafAssumed, LeafAgrees, keeps, narrowed_by, narrowed_from, narrowed}
use Rattle.tpl_laws.proofs.Basics.{some_none, same_number, mem_here}
use Rattle.tpl_laws.proofs.Kept.{after, ending_new, final_kept, final_of}
use Rattle.tpl_laws.proofs.Ready.{EndedSo, Ready, begun_ready, IsBody, begun_body, drop_body}
use Rattle.tpl_laws.proofs.Settling.{other_task}
use Rattle.tpl_laws.proofs.Carrying.{Ends, drops, leaves, settled, how_ends, worse_faulted}
use Rattle.tpl_laws.proofs.Chains.{ended_begun}
use Rattle.tpl_laws.proofs.TokenRows.{end_or}

-- how WhenAll ends where its arguments end so
abbrev pub fold_all : List ℕ → (ℕ → Final) → Final
fold_all [] d = RanToCompletion
fold_all (x ∷ xs) d = worse (Some (d x)) (fold_all xs d)

-- how a task is bound to end, by how it has and how those that it waits for are
abbrev pub bound_to : Option Final → ℕ → TaskKind → (ℕ → Final) → Final
bound_to (Some f) words k d = f
bound_to None words (Continues a) d = if allows words (d a) then RanToCompletion else Canceled
bound_to None words (WhenAll args) d = fold_all args d
bound_to None words Root d = RanToCompletion
bound_to None words Child d = RanToCompletion
bound_to None words (WhenAny args) d = RanToCompletion

-- the same, through n tasks that wait for one another
abbrev pub bound_within : TaskGraph → List Bool → List Event → ℕ → ℕ → Final
bound_within g v h zero t = RanToCompletion
bound_within g v h (suc n) t = bound_to (final g v h t) (options g t) (kind g t) (bound_within g v h n)

abbrev pub destiny : TaskGraph → List Bool → List Event → ℕ → Final
destiny g v h t = bound_within g v h (suc t) t

-- a task of this kind waits for x
abbrev Waits : TaskKind → ℕ → Type 0
Waits (Continues a) x = x ≡ a
Waits (WhenAll args) x = mem x args ≡ true
Waits Root x = ⊥
Waits Child x = ⊥
Waits (WhenAny args) x = ⊥

same_fold : (xs : List ℕ) (d e : ℕ → Final) → ((x : ℕ) → mem x xs ≡ true → d x ≡ e x) → fold_all xs d ≡ fold_all xs e
same_fold [] d e f = refl
same_fold (x ∷ xs) d e f =
    ap (λ z. worse (Some z) (fold_all xs d)) (f x (mem_here x x xs refl)) ∙ ap (worse (Some (e x))) (same_fold xs d e (λ y m. f y (mem_there y x xs m)))

same_bound : (o : Option Final) (words : ℕ) (k : TaskKind) (d e : ℕ → Final) → ((x : ℕ) → Waits k x → d x ≡ e x) → bound_to o words k d ≡ bound_to o words k e
same_bound (Some f) words k d e same = refl
same_bound None words (Continues a) d e same = ap (λ z. if allows words z then RanToCompletion else Canceled) (same a refl)
same_bound None words (WhenAll args) d e same = same_fold args d e same
same_bound None words Root d e same = refl
same_bound None words Child d e same = refl
same_bound None words (WhenAny args) d e same = refl

placed_before : (g : TaskGraph) (t x : ℕ) (args : List ℕ) → ArePlaced g t args → mem x args ≡ true → x < t
placed_before g t x [] p m = true_false (sym m)
placed_before g t x (y ∷ args) p m = elim (mem_split x y args m) [ inl q ↦ subst (λ z. z < t) (sym q) p.0 | inr q ↦ placed_before g t x args p.2 q ]

waits_before : (g : TaskGraph) (t x : ℕ) → IsGraph g → Waits (kind g t) x → x < t
waits_before g t x valid w = by_kind (kind g t) (valid.each t (other_task g t (kind g t) refl (λ r. subst (λ z. Waits z x) (sym r) w))).placed w
  where
    by_kind : (k : TaskKind) → IsPlaced g t k → Waits k x → x < t
    by_kind (Continues a) p w = subst (λ z. z < t) (sym w) p.0
    by_kind (WhenAll args) p w = placed_before g t x args p.0 w
    by_kind k p w = absurd w

-- more tasks make no difference
bound_same : (g : TaskGraph) (v : List Bool) (h : List Event) → IsGraph g → (n m t : ℕ) → t < n → t < m → bound_within g v h n t ≡ bound_within g v h m t
bound_same g v h valid zero m t a b = absurd (omega arith)
bound_same g v h valid (suc n) zero t a b = absurd (omega arith)
bound_same g v h valid (suc n) (suc m) t a b =
    same_bound (final g v h t) (options g t) (kind g t) (bound_within g v h n) (bound_within g v h m)
    (λ x w. let less : x < t = waits_before g t x valid w in bound_same g v h valid n m x (omega arith) (omega arith))

-- a task that has ended was bound to end so
pub destiny_ended : (g : TaskGraph) (v : List Bool) (h : List Event) (t : ℕ) (f : Final) → final g v h t ≡ Some f → destiny g v h t ≡ f
destiny_ended g v h t f e = ap (λ z. bound_to z (options g t) (kind g t) (bound_within g v h t)) e

destiny_open : (g : TaskGraph) (v : List Bool) (h : List Event) (t : ℕ) → IsGraph g → final g v h t ≡ None → destiny g v h t ≡ bound_to None (options g t) (kind g t) (destiny g v h)
destiny_open g v h t valid e =
    ap (λ z. bound_to z (options g t) (kind g t) (bound_within g v h t)) e
    ∙ same_bound None (options g t) (kind g t) (bound_within g v h t) (destiny g v h)
    (λ x w. let less : x < t = waits_before g t x valid w in bound_same g v h valid t (suc x) x less (omega arith))

-- a WhenAll task that has ended ended as its arguments did
abbrev AllEnded : TaskGraph → List Bool → List Event → List ℕ → Final → Type 0
AllEnded g v h args f = (d : ℕ → Final) × ((x : ℕ) → mem x args ≡ true → final g v h x ≡ Some (d x)) × (f ≡ fold_all args d)

fold_ended : (args : List ℕ) (en : ℕ → Option Ending) → all_ended args en ≡ true → ((x : ℕ) → mem x args ≡ true → final_in (en x) ≡ Some (end_or (en x))) × (all_final args en ≡ fold_all args (λ x. end_or (en x)))
fold_ended [] en e = ((λ x m. true_false (sym m)), refl)
fold_ended (y ∷ args) en e =
    let s = and_parts (is_some (en y)) (all_ended args en) e in
    let r = fold_ended args en s.1 in
    let first = some_end (en y) s.0 in (
      (λ x m. elim (mem_split x y args m) [ inl q ↦ subst (λ z. final_in (en z) ≡ Some (end_or (en z))) (sym q) first | inr q ↦ r.0 x q ]),
      ap (λ z. worse z (all_final args en)) first ∙ ap (worse (Some (end_or (en y)))) r.1,
    )
  where
    some_end : (o : Option Ending) → is_some o ≡ true → final_in o ≡ Some (end_or o)
    some_end None e = true_false (sym e)
    some_end (Some r) e = refl

all_ended_as : (g : TaskGraph) (v : List Bool) (h : List Event) (t : ℕ) (args : List ℕ) (r : Ending) → Run g v h → kind g t ≡ WhenAll args → ending g v h t ≡ Some r → AllEnded g v h args r.final
all_ended_as g v [] t args r run k e = at_once args (subst (λ z. ended_at_once z ≡ Some r) k e)
  where
    at_once : (xs : List ℕ) → ended_at_once (WhenAll xs) ≡ Some r → AllEnded g v [] xs r.final
    at_once [] q = ((λ x. RanToCompletion), (λ x m. true_false (sym m)), sym (same_Some RanToCompletion r.final (ap final_in q)))
    at_once (x ∷ xs) q = some_none r (sym q)
all_ended_as g v (ev ∷ h) t args r run k e = kept (here (λ o. all_ended_as g v h t args r run.0 k o) ev.actor ev.act run.1 e)
  where
    by_settle : (place : ℕ) (who : Option Actor) → all_ended args (ending g v h) ≡ true → settled_as (WhenAll args) place who (ending g v h) ≡ Some r → AllEnded g v h args r.final
    by_settle place who c q =
        let f = fold_ended args (ending g v h) c in
        ((λ x. end_or (ending g v h x)), f.0, sym (same_Some (all_final args (ending g v h)) r.final (ap final_in q)) ∙ f.1)

    by_end : Ends g v h t r → AllEnded g v h args r.final
    by_end (drops i d f c) = absurd (subst IsBody k (drop_body g v h t run.0 d))
    by_end (leaves i b) = absurd (subst IsBody k (begun_body g v h t run.0 b.begun))
    by_end (settled i c place who q) = by_settle place who (subst (λ z. can_settle z (ending g v h) ≡ true) k c) (subst (λ z. settled_as z place who (ending g v h) ≡ Some r) k q)

    here : (ending g v h t ≡ Some r → AllEnded g v h args r.final) → (a : Actor) (x : Act) → Allows g v h a x → ending g v (after a x h) t ≡ Some r → AllEnded g v h args r.final
    here old a x al z =
        elim (ending_new g v h a x t r z) [
          | inl o ↦ old o
          | inr n ↦ by_end (how_ends g v h a x t r run.0 al n.0 n.1)
        ]

    kept : AllEnded g v h args r.final → AllEnded g v (ev ∷ h) args r.final
    kept w = (w.0, (λ x m. final_kept g v h ev.actor ev.act x (w.0 x) run.1 (w.1 x m)), w.2)

final_cases : (o : Option Final) → (o ≡ None) ⊎ ((f : Final) × (o ≡ Some f))
final_cases None = inl refl
final_cases (Some f) = inr (f, refl)

module _ (g : TaskGraph) (v : List Bool) (h : List Event) (valid : IsGraph g) (run : Run g v h) where
  abbrev d : ℕ → Final
  d t = destiny g v h t

  -- a continuation that isn't bound to be canceled allows how its antecedent is bound to end
  allowed_destiny : (t a : ℕ) → kind g t ≡ Continues a → (d t ≡ Canceled → ⊥) → allows (options g t) (d a) ≡ true
  allowed_destiny t a k n =
      elim (final_cases (final g v h t)) [
        | inl o ↦ open_case (sym (destiny_open g v h t valid o ∙ ap (λ z. bound_to None (options g t) z d) k))
        | inr w ↦
            let r = final_of (ending g v h t) w.0 w.1 in
            let b = ended_begun g v h t r.0 run (subst IsBody (sym k) tt) r.1 (λ c. n (destiny_ended g v h t w.0 w.1 ∙ sym r.2 ∙ c)) in
            let m : EndedSo g v h t a true = subst (λ z. Ready g v h t z) k (begun_ready g v h t run b) in
            subst (λ z. allows (options g t) z ≡ true) (sym (destiny_ended g v h a m.0 m.1)) m.2
      ]
    where
      open_case : (if allows (options g t) (d a) then RanToCompletion else Canceled) ≡ d t → allows (options g t) (d a) ≡ true
      open_case e = by_test (allows (options g t) (d a)) e
        where
          by_test : (b : Bool) → (if b then RanToCompletion else Canceled) ≡ d t → b ≡ true
          by_test true e = refl
          by_test false e = absurd (n (sym e))

  -- a WhenAll task is bound to end as its arguments are
  all_destiny : (t : ℕ) (args : List ℕ) → kind g t ≡ WhenAll args → d t ≡ fold_all args d
  all_destiny t args k =
      elim (final_cases (final g v h t)) [
        | inl o ↦ destiny_open g v h t valid o ∙ ap (λ z. bound_to None (options g t) z d) k
        | inr w ↦
            let r = final_of (ending g v h t) w.0 w.1 in
            let a = all_ended_as g v h t args r.0 run k r.1 in
            destiny_ended g v h t w.0 w.1 ∙ sym r.2 ∙ a.2 ∙ same_fold args a.0 d (λ x m. sym (destiny_ended g v h x (a.0 x) (a.1 x m)))
      ]

  fold_faulted : (args : List ℕ) (s : ℕ) → mem s args ≡ true → d s ≡ Faulted → fold_all args d ≡ Faulted
  fold_faulted [] s m e = true_false (sym m)
  fold_faulted (y ∷ args) s m e =
      elim (mem_split s y args m) [
        | inl q ↦ ap (λ z. worse (Some z) (fold_all args d)) (ap d (sym q) ∙ e)
        | inr q ↦ ap (worse (Some (d y))) (fold_faulted args s q e) ∙ worse_faulted (Some (d y))
      ]

  abbrev NotRan : Final → Type 0
  NotRan f = (f ≡ Canceled) ⊎ (f ≡ Faulted)

  worse_canceled : (f : Final) → NotRan (worse (Some Canceled) f)
  worse_canceled RanToCompletion = inl refl
  worse_canceled Canceled = inl refl
  worse_canceled Faulted = inr refl

  worse_later : (e f : Final) → NotRan f → NotRan (worse (Some e) f)
  worse_later Faulted f n = inr refl
  worse_later Canceled f n = worse_canceled f
  worse_later RanToCompletion RanToCompletion n = n
  worse_later RanToCompletion Canceled n = n
  worse_later RanToCompletion Faulted n = n

  fold_canceled : (args : List ℕ) (s : ℕ) → mem s args ≡ true → d s ≡ Canceled → NotRan (fold_all args d)
  fold_canceled [] s m e = true_false (sym m)
  fold_canceled (y ∷ args) s m e =
      elim (mem_split s y args m) [
        | inl q ↦ subst (λ z. NotRan (worse (Some z) (fold_all args d))) (sym (ap d (sym q) ∙ e)) (worse_canceled (fold_all args d))
        | inr q ↦ worse_later (d y) (fold_all args d) (fold_canceled args s q e)
      ]

  -- how each task is bound to end stays among what is left, narrowed or not
  abbrev Left : (ℕ → Final → Bool) → Type 0
  Left cut = (s : ℕ) → cut s (d s) ≡ true

  keeps_it : (cut : ℕ → Final → Bool) (t s : ℕ) (args : List ℕ) → Left cut → kind g t ≡ WhenAll args → mem s args ≡ true → (f : Final) → d s ≡ f → keeps (cut t) f ≡ true
  keeps_it cut t s args left k m RanToCompletion e = refl
  keeps_it cut t s args left k m Faulted e = subst (λ z. cut t z ≡ true) (all_destiny t args k ∙ fold_faulted args s m e) (left t)
  keeps_it cut t s args left k m Canceled e =
      elim (fold_canceled args s m e) [
        | inl q ↦ or_right (cut t Faulted) (cut t Canceled) (subst (λ z. cut t z ≡ true) (all_destiny t args k ∙ q) (left t))
        | inr q ↦ or_left (cut t Faulted) (cut t Canceled) (subst (λ z. cut t z ≡ true) (all_destiny t args k ∙ q) (left t))
      ]

  not_canceled : (cut : ℕ → Final → Bool) (t : ℕ) → Left cut → cut t Canceled ≡ false → d t ≡ Canceled → ⊥
  not_canceled cut t left n e = true_false (sym (subst (λ z. cut t z ≡ true) e (left t)) ∙ n)

  left_by : (cut : ℕ → Final → Bool) (t : ℕ) (k : TaskKind) → kind g t ≡ k → Left cut → Left (narrowed_by g t k cut)
  left_by cut t (Continues a) k left = λ s. and_from (cut s (d s)) (cut t Canceled || (not (nat_eq a s) || allows (options g t) (d s))) (left s) (by_cut s)
    where
      by_test : (s : ℕ) → cut t Canceled ≡ false → (b : Bool) → nat_eq a s ≡ b → not b || allows (options g t) (d s) ≡ true
      by_test s n false e = refl
      by_test s n true e = subst (λ z. allows (options g t) (d z) ≡ true) (same_number a s e) (allowed_destiny t a k (not_canceled cut t left n))

      by_cut : (s : ℕ) → cut t Canceled || (not (nat_eq a s) || allows (options g t) (d s)) ≡ true
      by_cut s =
          elim (cases_Bool (cut t Canceled)) [
            | inl y ↦ or_left (cut t Canceled) (not (nat_eq a s) || allows (options g t) (d s)) y
            | inr n ↦ or_right (cut t Canceled) (not (nat_eq a s) || allows (options g t) (d s)) (by_test s n (nat_eq a s) refl)
          ]
  left_by cut t (WhenAll args) k left = λ s. and_from (cut s (d s)) (not (mem s args) || keeps (cut t) (d s)) (left s) (by_test s (mem s args) refl)
    where
      by_test : (s : ℕ) (b : Bool) → mem s args ≡ b → not b || keeps (cut t) (d s) ≡ true
      by_test s false m = refl
      by_test s true m = keeps_it cut t s args left k m (d s) refl
  left_by cut t other k left = left

  left_from : (n : ℕ) (cut : ℕ → Final → Bool) → Left cut → Left (narrowed_from g n cut)
  left_from zero cut left = left
  left_from (suc t) cut left = left_from t (narrowed_by g t (kind g t) cut) (left_by cut t (kind g t) refl left)

  -- a run agrees with what is left, narrowed
  pub narrowed_agrees : (l : LeafAssumed) → LeafAgrees g l v h → Left l.assumed.left → LeafAgrees g (narrowed g l) v h
  narrowed_agrees l ag left = record {
    agrees = record {
      inputs = ag.agrees.inputs;
      quiet = ag.agrees.quiet;
      ends = ends_left;
      jobs = ag.agrees.jobs;
    };
    winners = ag.winners;
  }
    where
      ends_left : (t : ℕ) (f : Final) → final g v h t ≡ Some f → end_left (narrowed g l).assumed t f ≡ true
      ends_left t f e =
          let both = and_parts (l.assumed.left t f) (l.assumed.ended t f) (ag.agrees.ends t f e) in
          and_from (narrowed_from g (length g.tasks) l.assumed.left t f) (l.assumed.ended t f) (subst (λ z. narrowed_from g (length g.tasks) l.assumed.left t z ≡ true) (destiny_ended g v h t f e) (left_from (length g.tasks) l.assumed.left left t)) both.1

-- what is narrowed was left before
pub narrowed_less : (g : TaskGraph) (n : ℕ) (cut : ℕ → Final → Bool) (s : ℕ) (f : Final) → narrowed_from g n cut s f ≡ true → cut s f ≡ true
narrowed_less g zero cut s f e = e
narrowed_less g (suc t) cut s f e = by_kind (kind g t) (narrowed_less g t (narrowed_by g t (kind g t) cut) s f e)
  where
    by_kind : (k : TaskKind) → narrowed_by g t k cut s f ≡ true → cut s f ≡ true
    by_kind (Continues a) e = (and_parts (cut s f) (cut t Canceled || (not (nat_eq a s) || allows (options g t) f)) e).0
    by_kind (WhenAll args) e = (and_parts (cut s f) (not (mem s args) || keeps (cut t) f) e).0
    by_kind k e = e
