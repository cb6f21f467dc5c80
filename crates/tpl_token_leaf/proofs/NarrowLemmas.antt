-- The ends that splits leave, narrowed.
use Rattle.std.proofs.Common.{◌≡◌, ℕ, ◌&&◌, ◌||◌, not, Bool, true, false, List, [], ◌∷◌, sym, ap, ◌∙◌, nat_eq, arith}
use Rattle.tpl_model.proofs.MemberLemmas.{same_either_way}
use Rattle.tpl_model.proofs.Truths.{and_true}
use Rattle.tpl_model.specs.declared.finals.Final.{Final}
use Rattle.tpl_model.specs.declared.finals.Final.TheVariants.{Canceled}
use Rattle.tpl_model.specs.declared.finals.Finals.{Finals}
use Rattle.tpl_model.specs.Finals.{has}
use Rattle.tpl_model.specs.Members.{mem}
use Rattle.tpl_model.specs.Options.{allows}
use Rattle.tpl_model.specs.Graph.{TaskGraph, TaskKind, Continues, WhenAll, kind, options}
use Rattle.tpl_model.specs.Certificate.{Assumed}
use Rattle.tpl_model.specs.TokenRules.{keeps, narrowed_by}
use Rattle.tpl_checker.specs.Assumptions.{with_kept}
use Rattle.tpl_token_leaf.specs.Narrowed.{narrowed_once, with_all_kept}

-- by a task of this kind
abbrev pub narrowed_as : TaskGraph → Assumed → ℕ → TaskKind → Assumed
narrowed_as g a t k = record a { left = narrowed_by g t k a.left }

pub of_kind : (g : TaskGraph) (a b : Assumed) (t : ℕ) (k : TaskKind) → k ≡ kind g t → b ≡ narrowed_as g a t k → b ≡ narrowed_once g a t
of_kind g a b t k e h = h ∙ ap (narrowed_as g a t) e

pub antecedent_kept : (g : TaskGraph) (a : Assumed) (t s : ℕ) (ends : Finals) → a.left t Canceled ≡ false → ((f : Final) → has ends f ≡ allows (options g t) f) → with_kept a s ends ≡ narrowed_as g a t (Continues s)
antecedent_kept g a t s ends e h = λ i. record a { left = λ x f. a.left x f && (sym e i || (not (nat_eq s x) || h f i)) }

pub antecedent_free : (g : TaskGraph) (a : Assumed) (t s : ℕ) → a.left t Canceled ≡ true → a ≡ narrowed_as g a t (Continues s)
antecedent_free g a t s e = λ i. record a { left = λ x f. (sym (and_true (a.left x f)) ∙ ap (λ z. a.left x f && (z || (not (nat_eq s x) || allows (options g t) f))) (sym e)) i }

both_kept : (c n m h : Bool) → ((c && (not n || h)) && (not m || h)) ≡ (c && (not (n || m) || h))
both_kept c n m h = grind arith

-- in one step
pub all_kept : (a : Assumed) (xs : List ℕ) (ends : Finals) → with_all_kept a xs ends ≡ record a { left = λ s f. a.left s f && (not (mem s xs) || has ends f) }
all_kept a [] ends = λ i. record a { left = λ s f. sym (and_true (a.left s f)) i }
all_kept a (x ∷ xs) ends =
    all_kept (with_kept a x ends) xs ends
    ∙ (λ i. record a { left = λ s f. (ap (λ z. (a.left s f && (not z || has ends f)) && (not (mem s xs) || has ends f)) (same_either_way x s) ∙ both_kept (a.left s f) (nat_eq s x) (mem s xs) (has ends f)) i })

pub arguments_kept : (g : TaskGraph) (a : Assumed) (t : ℕ) (xs : List ℕ) (ends : Finals) → ((f : Final) → has ends f ≡ keeps (a.left t) f) → with_all_kept a xs ends ≡ narrowed_as g a t (WhenAll xs)
arguments_kept g a t xs ends h = all_kept a xs ends ∙ (λ i. record a { left = λ s f. a.left s f && (not (mem s xs) || h f i) })
