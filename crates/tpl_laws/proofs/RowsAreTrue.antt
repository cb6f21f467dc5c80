-- What the body of a task has done in a run that agrees with a leaf.
use Rattle.std.proofs.Common.{◌≡◌, ℕ, ◌&&◌, inl, inr, not, Bool, true, false, Option, Some, None, List, [], ◌∷◌, refl, sym, ◌∙◌, subst, nat_eq, is_some}
use Rattle.std.proofs.lemmas.Option.{same_Some}
use Rattle.std.proofs.lemmas.Bool.{cases_Bool, and_from, or_cases, or_left, or_right}
use Rattle.tpl_model.proofs.MemberLemmas.{mem_split}
use Rattle.tpl_model.proofs.Truths.{true_false}
use Rattle.tpl_model.specs.declared.finals.Final.{Final}
use Rattle.tpl_model.specs.Options.{allows}
use Rattle.tpl_model.specs.declared.outcome.Outcome.{Outcome}
use Rattle.tpl_model.specs.declared.outcome.Outcome.TheVariants.{Returned}
use Rattle.tpl_model.specs.Members.{mem}
use Rattle.tpl_model.specs.Statements.{Statement, Statements, Nothing, ◌⨾◌}
use Rattle.tpl_model.specs.Graph.{TaskGraph, TaskKind, Continues, WhenAny, task, kind, body, options}
use Rattle.tpl_model.specs.declared.status.Actor.{Actor}
use Rattle.tpl_model.specs.declared.event.Act.{Act}
use Rattle.tpl_model.specs.declared.event.Act.TheVariants.{Leave}
use Rattle.tpl_model.specs.declared.event.Event.{Event}
use Rattle.tpl_model.specs.Facts.{begun, left_body, rest, requested, failed, ending, subject_in, subject_of, outcome_in, outcome_of}
use Rattle.tpl_model.specs.Rules.{final, IsRunning, Allows, Run, token_requested, token_requested_by}
use Rattle.tpl_model.specs.Paths.{Known, EndsPassing, Path}
use Rattle.tpl_laws.proofs.Basics.{some_none, same_number}
use Rattle.tpl_laws.proofs.Kept.{after, running_facts, final_kept, requested_kept, failed_kept}
use Rattle.tpl_model.specs.Finals.{has}
use Rattle.tpl_model.specs.Valid.{IsGraph}
use Rattle.tpl_model.specs.Certificate.{PlainRow, row, Assumed, Agrees, is_loud, loud_token, one_ends, subject_ends, subject_set, view}
use Rattle.tpl_laws.proofs.Execution.{passed, passes_or_stays, passes_running}
use Rattle.tpl_laws.proofs.Ready.{EndedSo, Ready, begun_ready, any_winner}
use Rattle.tpl_laws.proofs.Follows.{Fits, FollowsBy, winner_some}

-- a task that isn't running keeps what is left of its body
pub rest_idle : (g : TaskGraph) (v : List Bool) (h : List Event) (a : Actor) (x : Act) (t : ℕ) → Allows g v h a x → (IsRunning g v h a t → ⊥) → (rest g v (after a x h) t ≡ rest g v h t) × (passed g v (after a x h) t ≡ passed g v h t)
rest_idle g v h a x t al idle = elim (passes_or_stays g v h a x t) [ inl p ↦ absurd (idle (passes_running g v h a x t p al).0) | inr same ↦ same ]

-- the body of a task that has left it is over
pub left_verdict : (g : TaskGraph) (v : List Bool) (h : List Event) (t : ℕ) → Run g v h → left_body h t ≡ true → is_some (outcome_in (rest g v h t)) ≡ true
left_verdict g v [] t run e = true_false (sym e)
left_verdict g v (e ∷ h) t run l = here (λ o. left_verdict g v h t run.0 o) e.actor e.act run.1 l
  where
    was : (left_body h t ≡ true → is_some (outcome_in (rest g v h t)) ≡ true) → (a : Actor) (x : Act) → Allows g v h a x → left_body h t ≡ true → is_some (outcome_in (rest g v (after a x h) t)) ≡ true
    was old a x al o = subst (λ z. is_some (outcome_in z) ≡ true) (sym (rest_idle g v h a x t al (λ r. true_false (sym o ∙ (running_facts g v h a t r).1))).0) (old o)

    here : (left_body h t ≡ true → is_some (outcome_in (rest g v h t)) ≡ true) → (a : Actor) (x : Act) → Allows g v h a x → left_body (after a x h) t ≡ true → is_some (outcome_in (rest g v (after a x h) t)) ≡ true
    here old a (Leave s) al n =
        elim (or_cases (nat_eq s.0 t) (left_body h t) n) [
          | inl q ↦ subst (λ z. is_some (outcome_in (rest g v h z)) ≡ true) (same_number s.0 t q) al.1
          | inr q ↦ old q
        ]
    here old a x al n = was old a x al n

pub verdict_path : (w : Known) (body : Statements) (verdict : Option Outcome) (left : Statements) (ps : List Statement) (end : Outcome) → outcome_of verdict left ≡ Some end → FollowsBy w body verdict left ps → Path w body ps (Some end)
verdict_path w body (Some verdict) left ps end e f = let s : verdict ≡ end = cc in inr (subst (λ z. EndsPassing w body ps z) s f.1)
verdict_path w body None Nothing ps end e f = let s : Returned ≡ end = cc in inl (f, sym s)
verdict_path w body None (s ⨾ more) ps end e f = some_none end (sym e)

pub one_ends_mem : (args : List ℕ) (rows : List PlainRow) (s : ℕ) (f : Final) → mem s args ≡ true → has (row rows s).ends f ≡ true → one_ends args rows f ≡ true
one_ends_mem [] rows s f m e = true_false (sym m)
one_ends_mem (x ∷ args) rows s f m e =
    elim (mem_split s x args m) [
      | inl q ↦ or_left (has (row rows x).ends f) (one_ends args rows f) (subst (λ z. has (row rows z).ends f ≡ true) q e)
      | inr q ↦ or_right (has (row rows x).ends f) (one_ends args rows f) (one_ends_mem args rows s f q e)
    ]

-- the view of a task that has begun is true of the run
pub view_fits : (g : TaskGraph) (v : List Bool) (h : List Event) (l : Assumed) (rows : List PlainRow) (t : ℕ) → Run g v h → Agrees g l v h → ((s : ℕ) (f : Final) → final g v h s ≡ Some f → has (row rows s).ends f ≡ true) → is_some (begun h t) ≡ true → Fits g v h t (view g l rows t)
view_fits g v h l rows t run agrees ends b = record {
  own = refl;
  inputs = agrees.inputs;
  quiet = λ k r. elim (cases_Bool (l.quiet k)) [ inl q ↦ true_false (sym r ∙ agrees.quiet k q) | inr q ↦ q ];
  subject = by_kind (kind g t) refl;
  jobs = λ site r. elim (cases_Bool (l.sure site)) [ inl q ↦ true_false (sym r ∙ agrees.jobs site q) | inr q ↦ q ];
}
  where
    plain : (a : ℕ) → EndedSo g v h t a true → (s : ℕ) (f : Final) → Some a ≡ Some s → final g v h s ≡ Some f → has (row rows a).ends f && allows (options g t) f ≡ true
    plain a m s f e p =
        let same = same_Some a s e in
        let p' = subst (λ z. final g v h z ≡ Some f) (sym same) p in
        let f' = same_Some m.0 f (sym m.1 ∙ p') in
        and_from (has (row rows a).ends f) (allows (options g t) f) (ends a f p') (subst (λ z. allows (options g t) z ≡ true) f' m.2)

    of_kind : (a : ℕ) (k : TaskKind) → kind g a ≡ k → EndedSo g v h t a true → (s : ℕ) (f : Final) → subject_of k a (ending g v h a) ≡ Some s → final g v h s ≡ Some f → subject_ends k (options g t) a rows f ≡ true
    of_kind a (WhenAny args) k m s f e p =
        let r = winner_some (ending g v h a) s e in
        let w = any_winner g v h a args r.0 run k r.1 in
        let same = same_Some w.0 s (sym w.2 ∙ r.2) in
        one_ends_mem args rows s f (subst (λ z. mem z args ≡ true) same w.3) (ends s f p)
    of_kind a other k m s f e p = plain a m s f e p

    by_kind : (k : TaskKind) → kind g t ≡ k → (s : ℕ) (f : Final) → subject_in g k (ending g v h) ≡ Some s → final g v h s ≡ Some f → subject_set g rows t k f ≡ true
    by_kind (Continues a) k s f e p = of_kind a (kind g a) refl (subst (λ z. Ready g v h t z) k (begun_ready g v h t run b)) s f e p
    by_kind other k s f e p = some_none s (sym e)

pub agrees_before : (g : TaskGraph) (v : List Bool) (h : List Event) (l : Assumed) (a : Actor) (x : Act) → Allows g v h a x → Agrees g l v (after a x h) → Agrees g l v h
agrees_before g v h l a x al ag = record {
  inputs = ag.inputs;
  quiet = λ k q. elim (cases_Bool (requested g v h k)) [ inl r ↦ true_false (sym (requested_kept g v h a x k r) ∙ ag.quiet k q) | inr r ↦ r ];
  ends = λ t f e. ag.ends t f (final_kept g v h a x t f al e);
  jobs = λ site q. elim (cases_Bool (failed g v h site)) [ inl r ↦ true_false (sym (failed_kept g v h a x site r) ∙ ag.jobs site q) | inr r ↦ r ];
}

-- rows whose ends and begins are true of a run
pub record Upheld (g : TaskGraph) (l : Assumed) (rows : List PlainRow) (v : List Bool) (h : List Event) : Type 0 where
  pub valid : IsGraph g
  pub run : Run g v h
  pub agrees : Agrees g l v h
  pub ends : (t : ℕ) (f : Final) → final g v h t ≡ Some f → has (row rows t).ends f ≡ true
  pub runs : (t : ℕ) → is_some (begun h t) ≡ true → (row rows t).runs ≡ true

-- a task whose token is requested is loud
pub requested_loud : (g : TaskGraph) (l : Assumed) (v : List Bool) (h : List Event) (t : ℕ) → Agrees g l v h → token_requested g v h t ≡ true → is_loud g l t ≡ true
requested_loud g l v h t ag e = by_token (task g t).token e
  where
    by_token : (o : Option ℕ) → token_requested_by o (requested g v h) ≡ true → loud_token l o ≡ true
    by_token None e = true_false (sym e)
    by_token (Some k) e = quiet_false (l.quiet k) (λ q. true_false (sym e ∙ ag.quiet k q))
      where
        quiet_false : (b : Bool) → (b ≡ true → ⊥) → not b ≡ true
        quiet_false true n = absurd (n refl)
        quiet_false false n = refl
