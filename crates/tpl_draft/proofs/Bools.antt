-- What tests that fail say of their parts.
use Rattle.std.proofs.Common.{◌≡◌, ℕ, ◌<◌, Bool, true, false, not, ◌&&◌, nat_lt}
use Rattle.std.proofs.lemmas.Bool.{ltb-true, not-false}

pub and_true : (a b : Bool) → (a && b) ≡ false → a ≡ true → b ≡ false
and_true true b e is = e
and_true false b e is = absurd (cc)

pub is_below : (a b : ℕ) → not (nat_lt a b) ≡ false → a < b
is_below a b e = ltb-true a b (not-false (nat_lt a b) e)

pub true_false : (b : Bool) → b ≡ true → b ≡ false → ⊥
true_false b e g = absurd (cc)
