-- The number of a text, with a minus and without one.
use Rattle.std.proofs.Common.{◌≡◌, ℕ, ℤ, List, get_or, drop, ◌==◌, Bool, true, false, cond, Float, Some, None, option_and_then, refl}
use Rattle.fast_float.specs.Text.{Parts, scan}
use Rattle.serde_json.specs.Data.{negative, float}
use Rattle.serde_json.specs.Find.{as_u64}
use Rattle.serde_json.specs.Read.{number_of, number_from}

pub with_minus : (s : List ℕ) → (get_or s 0 0 == 45) ≡ true → number_from true (scan (drop 1 s)) ≡ number_of s
unfolding number_of
with_minus s e = rw e

pub with_none : (s : List ℕ) → (get_or s 0 0 == 45) ≡ false → number_from false (scan s) ≡ number_of s
unfolding number_of
with_none s e = rw e

neither_whole : (a b : Bool) (z : ℤ) (x : Float) → None ≡ option_and_then as_u64 (cond a (Some (negative z)) (cond b (Some (float x)) None))
neither_whole true b z x = refl
neither_whole false true z x = refl
neither_whole false false z x = refl

-- what has a minus is not taken for a whole number of 64 bits
pub not_whole : (p : Parts) → None ≡ option_and_then as_u64 (number_from true p)
not_whole p = neither_whole _ _ _ _
