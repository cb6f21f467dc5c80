-- How the arguments of WhenAll and WhenAny have ended, and how they may.
use Rattle.std.proofs.Common.{◌≡◌, ℕ, ◌||◌, inl, inr, true, false, Option, Some, None, List, [], ◌∷◌, refl, sym, ap, ◌∙◌, subst, is_some}
use Rattle.tpl_model.specs.declared.finals.Final.{Final}
use Rattle.tpl_model.specs.declared.finals.Final.TheVariants.{RanToCompletion, Canceled, Faulted}
use Rattle.tpl_model.specs.Finals.{is_final, has}
use Rattle.tpl_model.specs.Members.{mem}
use Rattle.tpl_model.specs.Facts.{Ending, final_in, all_final, worse}
use Rattle.tpl_model.specs.Rules.{all_ended}
use Rattle.tpl_laws.proofs.Basics.{mem_here}
use Rattle.tpl_model.specs.Certificate.{PlainRow, row, AllMayEnd, may_end}
use Rattle.std.proofs.lemmas.Bool.{and_parts, or_left, or_right}
use Rattle.tpl_model.proofs.MemberLemmas.{mem_split, mem_there}
use Rattle.tpl_model.proofs.Truths.{true_false}

-- what the ends of the arguments are, by the status of WhenAll
abbrev pub AllIs : List ℕ → (ℕ → Option Ending) → Final → Type 0
AllIs args en RanToCompletion = (x : ℕ) → mem x args ≡ true → final_in (en x) ≡ Some RanToCompletion
AllIs args en Canceled =
    ((x : ℕ) → mem x args ≡ true → ((e : Final) × (is_final e Faulted ≡ false) × (final_in (en x) ≡ Some e)))
    × ((x : ℕ) × (mem x args ≡ true) × (final_in (en x) ≡ Some Canceled))
AllIs args en Faulted = (x : ℕ) × (mem x args ≡ true) × (final_in (en x) ≡ Some Faulted)

pub end_of : (o : Option Ending) → is_some o ≡ true → (f : Final) × (final_in o ≡ Some f)
end_of None e = true_false (sym e)
end_of (Some r) e = (r.final, refl)

pub all_ended_mem : (args : List ℕ) (en : ℕ → Option Ending) (x : ℕ) → all_ended args en ≡ true → mem x args ≡ true → is_some (en x) ≡ true
all_ended_mem [] en x e m = true_false (sym m)
all_ended_mem (y ∷ args) en x e m =
    let both = and_parts (is_some (en y)) (all_ended args en) e in
    elim (mem_split x y args m) [ inl q ↦ subst (λ z. is_some (en z) ≡ true) (sym q) both.0 | inr q ↦ all_ended_mem args en x both.1 q ]

all_step : (y : ℕ) (args : List ℕ) (en : ℕ → Option Ending) (e f : Final) → final_in (en y) ≡ Some e → AllIs args en f → AllIs (y ∷ args) en (worse (Some e) f)
all_step y args en Canceled Faulted p w = (w.0, mem_there w.0 y args w.1, w.2)
all_step y args en Canceled Canceled p w =
    ((λ x m. elim (mem_split x y args m) [ inl q ↦ (Canceled, refl, ap (λ z. final_in (en z)) q ∙ p) | inr q ↦ w.0 x q ]), (y, mem_here y y args refl, p))
all_step y args en Canceled RanToCompletion p w =
    ((λ x m. elim (mem_split x y args m) [ inl q ↦ (Canceled, refl, ap (λ z. final_in (en z)) q ∙ p) | inr q ↦ (RanToCompletion, refl, w x q) ]), (y, mem_here y y args refl, p))
all_step y args en RanToCompletion RanToCompletion p w = λ x m. elim (mem_split x y args m) [ inl q ↦ ap (λ z. final_in (en z)) q ∙ p | inr q ↦ w x q ]
all_step y args en RanToCompletion Canceled p w =
    ((λ x m. elim (mem_split x y args m) [ inl q ↦ (RanToCompletion, refl, ap (λ z. final_in (en z)) q ∙ p) | inr q ↦ w.0 x q ]), (w.1.0, mem_there w.1.0 y args w.1.1, w.1.2))
all_step y args en RanToCompletion Faulted p w = (w.0, mem_there w.0 y args w.1, w.2)
all_step y args en Faulted f p w = (y, mem_here y y args refl, p)

pub all_is : (args : List ℕ) (en : ℕ → Option Ending) → all_ended args en ≡ true → AllIs args en (all_final args en)
all_is [] en e = λ x m. true_false (sym m)
all_is (y ∷ args) en e =
    let both = and_parts (is_some (en y)) (all_ended args en) e in
    let o = end_of (en y) both.0 in
    subst (λ z. AllIs (y ∷ args) en (worse z (all_final args en))) (sym o.1) (all_step y args en o.0 (all_final args en) o.1 (all_is args en both.1))

pub all_may : (rows : List PlainRow) (args : List ℕ) (en : ℕ → Option Ending) (f : Final) → all_ended args en ≡ true → ((x : ℕ) (e : Final) → final_in (en x) ≡ Some e → has (row rows x).ends e ≡ true) → AllIs args en f → AllMayEnd rows args f
all_may rows args en RanToCompletion a ends w = λ x m. ends x RanToCompletion (w x m)
all_may rows args en Canceled a ends w =
    ((λ x m. let q = w.0 x m in (q.0, q.1, ends x q.0 q.2)), (w.1.0, w.1.1, ends w.1.0 Canceled w.1.2))
all_may rows args en Faulted a ends w =
    ((λ x m. let q = end_of (en x) (all_ended_mem args en x a m) in (q.0, ends x q.0 q.1)), (w.0, w.1, ends w.0 Faulted w.2))

-- a task whose row has an end may end
pub may_end_so : (rows : List PlainRow) (t : ℕ) (f : Final) → has (row rows t).ends f ≡ true → may_end rows t ≡ true
may_end_so rows t RanToCompletion e = or_left (has (row rows t).ends RanToCompletion) (has (row rows t).ends Canceled || has (row rows t).ends Faulted) e
may_end_so rows t Canceled e =
    or_right (has (row rows t).ends RanToCompletion) (has (row rows t).ends Canceled || has (row rows t).ends Faulted)
    (or_left (has (row rows t).ends Canceled) (has (row rows t).ends Faulted) e)
may_end_so rows t Faulted e =
    or_right (has (row rows t).ends RanToCompletion) (has (row rows t).ends Canceled || has (row rows t).ends Faulted)
    (or_right (has (row rows t).ends Canceled) (has (row rows t).ends Faulted) e)
