use Rattle.std.proofs.Common.{◌≡◌, Bool, true, false, ◌&&◌, List, [], ◌∷◌, take, refl, sym, ap, ◌∙◌}
use Rattle.std.specs.Cmp.Lexicographic.{pointwise}
use Rattle.std.proofs.lemmas.Bool.{and_parts}
use Rattle.tpl_model.proofs.Truths.{beq_same}
use mathlib.Core.Bool.{beq}
use Rattle.tpl_model.proofs.inputs.Inputs.same.Goals as goal

same_lists : (xs ys : List Bool) → pointwise beq xs ys ≡ true → xs ≡ ys
same_lists [] [] e = refl
same_lists [] (y ∷ ys) e = cc
same_lists (x ∷ xs) [] e = cc
same_lists (x ∷ xs) (y ∷ ys) e =
    let parts = and_parts (beq x y) (pointwise beq xs ys) e in
    ap (λ l. x ∷ l) (same_lists xs ys parts.1) ∙ ap (λ z. z ∷ ys) (beq_same x y parts.0)

beq_refl : (a : Bool) → beq a a ≡ true
beq_refl true = refl
beq_refl false = refl

lists_same : (xs : List Bool) → pointwise beq xs xs ≡ true
lists_same [] = refl
lists_same (x ∷ xs) = ap (λ b. b && pointwise beq xs xs) (beq_refl x) ∙ lists_same xs

pub returns : goal.returns
returns c =
    let mine = take c.self.inside.count c.self.inside.values in
    let others = take c.other.inside.count c.other.inside.values in (
      λ e. sym c.self.view_is ∙ (same_lists mine others (sym c.eq.ensures ∙ e) ∙ c.other.view_is),
      λ e. c.eq.ensures ∙ (ap (pointwise beq mine) (sym (c.self.view_is ∙ (e ∙ sym c.other.view_is))) ∙ lists_same mine),
    )
