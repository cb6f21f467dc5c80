-- The walk over a body finds how its paths end.
use Rattle.std.proofs.Common.{◌≡◌, inl, inr, ◌&&◌, ◌||◌, not, Bool, true, false, Some, List, [], ◌∷◌, refl, sym, ◌∙◌, subst}
use Rattle.std.specs.Prelude.{◌↔◌}
use Rattle.std.proofs.lemmas.Bool.{and_from, or_cases, or_left, or_right, not-true, not_from_false, cases_Bool}
use Rattle.tpl_model.proofs.Truths.{true_false}
use Rattle.tpl_model.specs.declared.status.Label.{Label}
use Rattle.tpl_model.specs.declared.outcome.Outcome.{Outcome}
use Rattle.tpl_model.specs.declared.outcome.Outcome.TheVariants.{Returned, Threw, Acknowledged}
use Rattle.tpl_model.specs.Statements.{Statement, Statements}
use Rattle.tpl_model.specs.Paths.{Known, Path, MayEnd, MayThrow, MustObserve, is_observation, passes_observe}
use Rattle.tpl_model.specs.Recursion.{is_throw, clean}
use Rattle.tpl_model.specs.declared.ends.Ends.{Ends}
use Rattle.tpl_model.specs.declared.verdict.Verdicts.{Verdicts}
use Rattle.tpl_model.specs.Ends.{is_return, is_acknowledgement, avoided, ends_in}
use Rattle.tpl_model.proofs.Through.{may_lem}

-- where observations may be passed, nothing is avoided
all_clean : (ps : List Statement) → clean (avoided true) ps ≡ true
all_clean [] = refl
all_clean (s ∷ ps) = and_from (not (avoided true s)) (clean (avoided true) ps) (kept (is_observation s)) (all_clean ps)
  where
    kept : (b : Bool) → not (b && false) ≡ true
    kept true = refl
    kept false = refl

pub is_returned : (outcome : Outcome) → is_return outcome ≡ true → outcome ≡ Returned
is_returned Returned e = refl
is_returned (Threw l) e = true_false (sym e)
is_returned Acknowledged e = true_false (sym e)

pub is_acknowledged : (outcome : Outcome) → is_acknowledgement outcome ≡ true → outcome ≡ Acknowledged
is_acknowledged Returned e = true_false (sym e)
is_acknowledged (Threw l) e = true_false (sym e)
is_acknowledged Acknowledged e = refl

pub thrown_label : (outcome : Outcome) → is_throw outcome ≡ true → (l : Label) × (outcome ≡ Threw l)
thrown_label Returned e = true_false (sym e)
thrown_label (Threw l) e = (l, refl)
thrown_label Acknowledged e = true_false (sym e)

-- a verdict with which paths end only at a statement
no_return : (stops gets : Bool) → stops || (gets && false) ≡ true → stops ≡ true
no_return true gets e = refl
no_return false true e = true_false (sym e)
no_return false false e = true_false (sym e)

at_end : (stops gets : Bool) → stops || gets ≡ true → stops || (gets && true) ≡ true
at_end true gets e = refl
at_end false true e = refl
at_end false false e = true_false (sym e)

from_end : (stops gets : Bool) → stops || (gets && true) ≡ true → stops || gets ≡ true
from_end true gets e = refl
from_end false true e = refl
from_end false false e = true_false (sym e)

pub may_return : (w : Known) (b : Statements) → ((ends_in true w b).returned || (ends_in true w b).goes_on ≡ true) ↔ MayEnd w b Returned
may_return w b = (found, made)
  where
    found : (ends_in true w b).returned || (ends_in true w b).goes_on ≡ true → MayEnd w b Returned
    found e =
        let q = (may_lem (avoided true) is_return w b).0 (at_end (ends_in true w b).returned (ends_in true w b).goes_on e) in
        (q.0, subst (λ o. Path w b q.0 (Some o)) (is_returned q.1 q.3) q.2)

    made : MayEnd w b Returned → (ends_in true w b).returned || (ends_in true w b).goes_on ≡ true
    made m = from_end (ends_in true w b).returned (ends_in true w b).goes_on ((may_lem (avoided true) is_return w b).1 (m.0, Returned, m.1, refl, all_clean m.0))

pub may_acknowledge : (w : Known) (b : Statements) → ((ends_in true w b).acknowledged ≡ true) ↔ MayEnd w b Acknowledged
may_acknowledge w b = (found, made)
  where
    found : (ends_in true w b).acknowledged ≡ true → MayEnd w b Acknowledged
    found e =
        let q = (may_lem (avoided true) is_acknowledgement w b).0 (or_left (ends_in true w b).acknowledged ((ends_in true w b).goes_on && false) e) in
        (q.0, subst (λ o. Path w b q.0 (Some o)) (is_acknowledged q.1 q.3) q.2)

    made : MayEnd w b Acknowledged → (ends_in true w b).acknowledged ≡ true
    made m = no_return (ends_in true w b).acknowledged (ends_in true w b).goes_on ((may_lem (avoided true) is_acknowledgement w b).1 (m.0, Acknowledged, m.1, refl, all_clean m.0))

pub may_throw : (w : Known) (b : Statements) → ((ends_in true w b).thrown ≡ true) ↔ MayThrow w b
may_throw w b = (found, made)
  where
    found : (ends_in true w b).thrown ≡ true → MayThrow w b
    found e =
        let q = (may_lem (avoided true) is_throw w b).0 (or_left (ends_in true w b).thrown ((ends_in true w b).goes_on && false) e) in
        let l = thrown_label q.1 q.3 in
        (l.0, (q.0, subst (λ o. Path w b q.0 (Some o)) l.1 q.2))

    made : MayThrow w b → (ends_in true w b).thrown ≡ true
    made m = no_return (ends_in true w b).thrown (ends_in true w b).goes_on ((may_lem (avoided true) is_throw w b).1 (m.1.0, Threw m.0, m.1.1, refl, all_clean m.1.0))

unseen : (ps : List Statement) → passes_observe ps ≡ false → clean (avoided false) ps ≡ true
unseen [] e = refl
unseen (s ∷ ps) e = go (is_observation s) e (λ p. unseen ps p)
  where
    go : (b : Bool) → b || passes_observe ps ≡ false → (passes_observe ps ≡ false → clean (avoided false) ps ≡ true) → not (b && true) && clean (avoided false) ps ≡ true
    go true e h = true_false e
    go false e h = h e

clean_unseen : (ps : List Statement) → clean (avoided false) ps ≡ true → passes_observe ps ≡ true → ⊥
clean_unseen [] e f = true_false (sym f)
clean_unseen (s ∷ ps) e f = go (is_observation s) e f (λ p q. clean_unseen ps p q)
  where
    go : (b : Bool) → not (b && true) && clean (avoided false) ps ≡ true → b || passes_observe ps ≡ true → (clean (avoided false) ps ≡ true → passes_observe ps ≡ true → ⊥) → ⊥
    go true e f h = true_false (sym e)
    go false e f h = h e f

-- a path ends that passes no observation
abbrev pub unobserved : Known → Statements → Bool
unobserved w b = ((ends_in false w b).returned || (ends_in false w b).goes_on) || ((ends_in false w b).thrown || (ends_in false w b).acknowledged)

path_unobserved : (w : Known) (b : Statements) (passed : List Statement) (outcome : Outcome) → Path w b passed (Some outcome) → clean (avoided false) passed ≡ true → unobserved w b ≡ true
path_unobserved w b passed Returned p c =
    or_left ((ends_in false w b).returned || (ends_in false w b).goes_on) ((ends_in false w b).thrown || (ends_in false w b).acknowledged)
    (from_end (ends_in false w b).returned (ends_in false w b).goes_on ((may_lem (avoided false) is_return w b).1 (passed, Returned, p, refl, c)))
path_unobserved w b passed (Threw l) p c =
    or_right ((ends_in false w b).returned || (ends_in false w b).goes_on) ((ends_in false w b).thrown || (ends_in false w b).acknowledged)
    (or_left (ends_in false w b).thrown (ends_in false w b).acknowledged (no_return (ends_in false w b).thrown (ends_in false w b).goes_on ((may_lem (avoided false) is_throw w b).1 (passed, Threw l, p, refl, c))))
path_unobserved w b passed Acknowledged p c =
    or_right ((ends_in false w b).returned || (ends_in false w b).goes_on) ((ends_in false w b).thrown || (ends_in false w b).acknowledged)
    (or_right (ends_in false w b).thrown (ends_in false w b).acknowledged (no_return (ends_in false w b).acknowledged (ends_in false w b).goes_on ((may_lem (avoided false) is_acknowledgement w b).1 (passed, Acknowledged, p, refl, c))))

abbrev Unobserved : Known → Statements → Type 0
Unobserved w b = (passed : List Statement) × (outcome : Outcome) × Path w b passed (Some outcome) × (clean (avoided false) passed ≡ true)

unobserved_path : (w : Known) (b : Statements) → unobserved w b ≡ true → Unobserved w b
unobserved_path w b e =
    elim (or_cases ((ends_in false w b).returned || (ends_in false w b).goes_on) ((ends_in false w b).thrown || (ends_in false w b).acknowledged) e) [
      | inl q ↦ let r = (may_lem (avoided false) is_return w b).0 (at_end (ends_in false w b).returned (ends_in false w b).goes_on q) in (r.0, r.1, r.2, r.4)
      | inr q ↦ elim (or_cases (ends_in false w b).thrown (ends_in false w b).acknowledged q) [
        | inl t ↦ let r = (may_lem (avoided false) is_throw w b).0 (or_left (ends_in false w b).thrown ((ends_in false w b).goes_on && false) t) in (r.0, r.1, r.2, r.4)
        | inr t ↦ let r = (may_lem (avoided false) is_acknowledgement w b).0 (or_left (ends_in false w b).acknowledged ((ends_in false w b).goes_on && false) t) in (r.0, r.1, r.2, r.4)
      ]
    ]

pub must_observe_lem : (w : Known) (b : Statements) → (not (unobserved w b) ≡ true) ↔ MustObserve w b
must_observe_lem w b = (found, made)
  where
    found : not (unobserved w b) ≡ true → MustObserve w b
    found e passed outcome p =
        elim (cases_Bool (passes_observe passed)) [
          | inl q ↦ q
          | inr q ↦ true_false (sym (path_unobserved w b passed outcome p (unseen passed q)) ∙ not-true (unobserved w b) e)
        ]

    made : MustObserve w b → not (unobserved w b) ≡ true
    made m =
        elim (cases_Bool (unobserved w b)) [
          | inl q ↦ let f = unobserved_path w b q in absurd (clean_unseen f.0 f.3 (m f.0 f.1 f.2))
          | inr q ↦ not_from_false (unobserved w b) q
        ]

-- the verdicts of how paths end
abbrev pub verdicts_of : Ends → Verdicts
verdicts_of a = record { returned = a.returned || a.goes_on; thrown = a.thrown; acknowledged = a.acknowledged }

-- a truth value that is another one
pub told : {P : Type 0} (a b : Bool) → a ≡ b → (b ≡ true) ↔ P → (a ≡ true) ↔ P
told a b e h = (λ t. h.0 (sym e ∙ t), λ p. e ∙ h.1 p)
