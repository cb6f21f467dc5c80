-- What a body knows to be requested is.
use Rattle.std.proofs.Common.{◌≡◌, ℕ, ◌||◌, inl, inr, not, Bool, true, false, if◌then◌else◌, Option, None, List, ◌∷◌, refl, sym, ap, ◌∙◌, subst, nat_eq}
use Rattle.std.proofs.lemmas.Bool.{or_cases, or_left}
use Rattle.tpl_model.proofs.MemberLemmas.{same_self}
use Rattle.tpl_model.proofs.Truths.{true_false}
use Rattle.tpl_model.specs.declared.outcome.Outcome.{Outcome}
use Rattle.tpl_model.specs.Statements.{Statement, Check, Cancel, Work, Statements, Nothing, ◌⨾◌}
use Rattle.tpl_model.specs.Paths.{cancellation}
use Rattle.tpl_model.proofs.KnownPaths.{requested_on, told_by, HeedsBy}
use Rattle.tpl_model.specs.declared.status.Actor.{Actor}
use Rattle.tpl_model.specs.declared.status.Answer.{Answer}
use Rattle.tpl_model.specs.declared.status.Answer.TheVariants.{Done, Failed}
use Rattle.tpl_model.specs.Graph.{TaskGraph, task}
use Rattle.tpl_model.specs.declared.event.Act.{Act}
use Rattle.tpl_model.specs.declared.event.Act.TheVariants.{Step, Worked}
use Rattle.tpl_model.specs.declared.event.Event.{Event}
use Rattle.tpl_model.specs.Facts.{Rest, Ending, on, over, begun, is_cancel, stepped, worked, rest, requested, requested_itself, ending}
use Rattle.tpl_model.specs.Rules.{Allows, Run, steps, works}
use Rattle.tpl_model.specs.TokenRules.{linked}
use Rattle.tpl_laws.proofs.Basics.{same_number}
use Rattle.tpl_laws.proofs.Kept.{id, after, not_some, requested_kept}
use Rattle.tpl_laws.proofs.Sources.{through_here, through_more, through_twice}
use Rattle.tpl_laws.proofs.Execution.{pushed, passed}
use Rattle.tpl_laws.proofs.Chains.{unbegun_rest}

-- with a token those that are linked to it are requested
pub linked_requested : (g : TaskGraph) (v : List Bool) (h : List Event) (k j : ℕ) → requested g v h k ≡ true → linked g k j ≡ true → requested g v h j ≡ true
linked_requested g v h k j r e =
    through_twice g (requested_itself g v h) j (through_more g (nat_eq k) (requested g v h) (λ i m. subst (λ z. requested g v h z ≡ true) (same_number k i m) r) j e)

-- what a body knows is requested, and it passes no check of what it knows
module _ (quiet : ℕ → Bool) (links : ℕ → ℕ → Bool) (tokens : ℕ → Bool) where
  abbrev pub Told : (ℕ → Bool) → Option Outcome → List Statement → Type 0
  Told req o ps = ((k : ℕ) → told_by links tokens o ps k ≡ true → req k ≡ true) × HeedsBy quiet links tokens o ps

  pub told_more : (req req2 : ℕ → Bool) (o : Option Outcome) (ps : List Statement) → ((k : ℕ) → req k ≡ true → req2 k ≡ true) → Told req o ps → Told req2 o ps
  told_more req req2 o ps more t = ((λ k e. more k (t.0 k e)), t.1)

  either_told : (req : ℕ → Bool) (b : Bool) (x y : Rest) (ps : List Statement) → (b ≡ true → Told req x.outcome ps) → (b ≡ false → Told req y.outcome ps) → Told req (if b then x else y).outcome ps
  either_told req true x y ps f g = f refl
  either_told req false x y ps f g = g refl

  module _ (g : TaskGraph) (v : List Bool) (t : ℕ) (en : ℕ → Option Ending) (req req2 : ℕ → Bool) (kept : (k : ℕ) → req k ≡ true → req2 k ≡ true) (closed : (k j : ℕ) → req2 k ≡ true → links k j ≡ true → req2 j ≡ true) where
    pub step_told : (left : Statements) (ps : List Statement) → ((k : ℕ) → is_cancel k left ≡ true → req2 k ≡ true) → steps left ≡ true → Told req None ps → Told req2 (stepped g v t left req en).outcome (pushed left ps)
    step_told Nothing ps c st old = true_false (sym st)
    step_told (Check k ⨾ more) ps c st old =
        either_told req2 (req k) (over (cancellation (task g t).token k)) (on more) (Check k ∷ ps)
        (λ r. ((λ j e. elim (or_cases (links k j) (requested_on links tokens ps j) e) [ inl q ↦ closed k j (kept k r) q | inr q ↦ kept j (old.0 j q) ]), old.1))
        (λ r. ((λ j e. kept j (old.0 j e)), (unknown (quiet k) (requested_on links tokens ps k) (λ q. true_false (sym (old.0 k q) ∙ r)), old.1)))
      where
        unknown : (q b : Bool) → (b ≡ true → ⊥) → q || not b ≡ true
        unknown true b n = refl
        unknown false true n = absurd (n refl)
        unknown false false n = refl
    step_told (Cancel k ⨾ more) ps c st old =
        ((λ j e. elim (or_cases (links k j) (requested_on links tokens ps j) e) [ inl q ↦ closed k j (c k (same_self k)) q | inr q ↦ kept j (old.0 j q) ]), old.1)
    step_told (Work s m ⨾ more) ps c st old = true_false (sym st)
    step_told left ps c st old = ((λ k e. kept k (old.0 k e)), old.1)

    pub work_told : (answer : Answer) (left : Statements) (ps : List Statement) → works answer left ≡ true → Told req None ps → Told req2 (worked answer left).outcome (pushed left ps)
    work_told Done (Work s m ⨾ more) ps e old = ((λ k q. kept k (old.0 k q)), old.1)
    work_told Failed (Work s m ⨾ more) ps e old = ((λ k q. kept k (old.0 k q)), old.1)
    work_told answer left ps e old = true_false (sym e)

-- what the body of t knows at a moment of a run
abbrev pub ToldIn : (ℕ → Bool) → (ℕ → Bool) → TaskGraph → List Bool → List Event → ℕ → Type 0
ToldIn quiet tokens g v h t = Told quiet (linked g) tokens (requested g v h) (rest g v h t).outcome (passed g v h t)

module _ (quiet : ℕ → Bool) (tokens : ℕ → Bool) (g : TaskGraph) (v : List Bool) (h : List Event) (t : ℕ) where
  either_branch : (req : ℕ → Bool) (b : Bool) (x y : Rest) (p q : List Statement) → (b ≡ true → Told quiet (linked g) tokens req x.outcome p) → (b ≡ false → Told quiet (linked g) tokens req y.outcome q) → Told quiet (linked g) tokens req (if b then x else y).outcome (if b then p else q)
  either_branch req true x y p q f k = f refl
  either_branch req false x y p q f k = k refl

  -- an event keeps it so
  pub told_kept : (a : Actor) (x : Act) → Allows g v h a x → ToldIn quiet tokens g v h t → ToldIn quiet tokens g v (after a x h) t
  told_kept a (Step s) al old =
      either_branch (requested g v (after a (Step s) h)) (nat_eq s.0 t) (stepped g v t (rest g v h t).left (requested g v h) (ending g v h)) (rest g v h t) (pushed (rest g v h t).left (passed g v h t)) (passed g v h t)
      (λ q. step_case s q al)
      (λ q. told_more quiet (linked g) tokens (requested g v h) (requested g v (after a (Step s) h)) (rest g v h t).outcome (passed g v h t) (λ k r. requested_kept g v h a (Step s) k r) old)
    where
      step_case : (s : Rattle.tpl_model.specs.declared.ids.TaskId.TaskId) → nat_eq s.0 t ≡ true → Allows g v h a (Step s) → Told quiet (linked g) tokens (requested g v (after a (Step s) h)) (stepped g v t (rest g v h t).left (requested g v h) (ending g v h)).outcome (pushed (rest g v h t).left (passed g v h t))
      step_case s q al =
          let same = same_number s.0 t q in
          let al2 = subst (λ z. Allows g v h a (Step (id z))) same al in
          step_told quiet (linked g) tokens g v t (ending g v h) (requested g v h) (requested g v (after a (Step s) h))
          (λ k r. requested_kept g v h a (Step s) k r)
          (λ k j r e. linked_requested g v (after a (Step s) h) k j r e)
          (rest g v h t).left (passed g v h t)
          (λ k c. through_here g (requested_itself g v (after a (Step s) h)) k (or_left (is_cancel k (rest g v h s.0).left) (requested_itself g v h k) (subst (λ z. is_cancel k (rest g v h z).left ≡ true) (sym same) c)))
          al2.2
          (subst (λ z. Told quiet (linked g) tokens (requested g v h) z (passed g v h t)) (not_some (rest g v h t).outcome al2.1) old)
  told_kept a (Worked s answer) al old =
      either_branch (requested g v (after a (Worked s answer) h)) (nat_eq s.0 t) (worked answer (rest g v h t).left) (rest g v h t) (pushed (rest g v h t).left (passed g v h t)) (passed g v h t)
      (λ q.
      let al2 = subst (λ z. Allows g v h a (Worked (id z) answer)) (same_number s.0 t q) al in
      work_told quiet (linked g) tokens g v t (ending g v h) (requested g v h) (requested g v (after a (Worked s answer) h))
      (λ k r. requested_kept g v h a (Worked s answer) k r)
      (λ k j r e. linked_requested g v (after a (Worked s answer) h) k j r e)
      answer (rest g v h t).left (passed g v h t) al2.2
      (subst (λ z. Told quiet (linked g) tokens (requested g v h) z (passed g v h t)) (not_some (rest g v h t).outcome al2.1) old))
      (λ q. told_more quiet (linked g) tokens (requested g v h) (requested g v (after a (Worked s answer) h)) (rest g v h t).outcome (passed g v h t) (λ k r. requested_kept g v h a (Worked s answer) k r) old)
  told_kept a x al old = told_more quiet (linked g) tokens (requested g v h) (requested g v (after a x h)) (rest g v h t).outcome (passed g v h t) (λ k r. requested_kept g v h a x k r) old

  -- a body that hasn't begun has passed nothing
  pub told_first : Run g v h → begun h t ≡ None → ((k : ℕ) → tokens k ≡ true → requested g v h k ≡ true) → ToldIn quiet tokens g v h t
  told_first run b first =
      let w = unbegun_rest g v h t run b in
      subst (λ z. Told quiet (linked g) tokens (requested g v h) z (passed g v h t)) (sym (ap (λ (z : Rest). z.outcome) w.0))
      (subst (λ z. Told quiet (linked g) tokens (requested g v h) None z) (sym w.1) (first, tt))
