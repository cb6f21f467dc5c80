-- A split on an input, whose names are too long for the check's own search.
use Rattle.std.proofs.Common.{◌≡◌, ℕ, List, [], ◌∷◌, Bool, true, Option, Some, codes, option_and_then, refl}
use Rattle.serde_json.specs.Data.{Data}
use Rattle.serde_json.specs.Find.{get}
use Rattle.tpl_json.specs.declared.miss.Miss.{Miss}
use Rattle.tpl_json.specs.declared.miss.Shape.{Shape}
use Rattle.tpl_json.specs.declared.miss.Miss.TheVariants as misses
use Rattle.tpl_cert.specs.NamedTrees.{NamedTree, SplitInput}
use Rattle.tpl_json.specs.Members.{has_only, text_in, Misses}
use Rattle.tpl_cert.specs.Reading.{input_at}

abbrev only_input : Data → Bool
only_input d = has_only (codes "split_input" ∷ codes "yes" ∷ codes "no" ∷ []) d

pub input_misses : (inner : Data → Option NamedTree) (d : Data) (m : Miss Shape) → true ≡ only_input d → Misses m (text_in (codes "split_input") d) → Misses m (input_at inner d)
unfolding input_at
input_misses inner d misses.Memory h e = tt
input_misses inner d (misses.Wrong shape) h e = rw (← h, e) refl

pub input_is : (inner : Data → Option NamedTree) (d : Data) (name : List ℕ) (first second : NamedTree) → true ≡ only_input d → text_in (codes "split_input") d ≡ Some name
    → option_and_then inner (get (codes "yes") d) ≡ Some first → option_and_then inner (get (codes "no") d) ≡ Some second → input_at inner d ≡ Some (SplitInput name first second)
unfolding input_at
input_is inner d name first second h e a b = rw (← h, e, a, b) refl
