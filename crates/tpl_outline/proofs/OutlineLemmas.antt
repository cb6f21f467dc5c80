-- What the stages of some tasks leave of an outline.
use Rattle.std.proofs.Common.{◌≡◌, ℕ, inl, inr, true, false, List, sym, ◌∙◌, subst}
use Rattle.tpl_model.specs.Members.{mem}
use Rattle.tpl_model.specs.Certificate.{Assumed}
use Rattle.tpl_outline.specs.declared.outline.Outline.{Outline}
use Rattle.tpl_outline.specs.Fates.{fate_of, IsOpen, KeepsOthers}

-- these tasks alone have been settled, under what is assumed
pub record SettledSoFar (tasks : List ℕ) (l : Assumed) (from now : Outline) : Type 0 where
  pub others : (t : ℕ) → mem t tasks ≡ false → fate_of now t ≡ fate_of from t
  pub ends : IsOpen l from now

pub settled_more : (tasks : List ℕ) (l : Assumed) (from old new : Outline) (task : ℕ) → mem task tasks ≡ true → SettledSoFar tasks l from old → KeepsOthers task old new → IsOpen l old new → SettledSoFar tasks l from new
settled_more tasks l from old new task member so_far others ends = record {
  others = λ t out. others t (λ same. let no : false ≡ true = sym out ∙ subst (λ z. mem z tasks ≡ true) (sym same) member in cc) ∙ so_far.others t out;
  ends = λ t f may. elim (ends t f may) [ inl before ↦ so_far.ends t f before | inr left ↦ inr left ];
}
