-- Numbers of 32 bits as sets of tokens.
use Rattle.std.proofs.Common.{◌≡◌, ℕ, zero, suc, ◌*◌, ◌%◌, ◌^◌, ◌<◌, ◌≤◌, Bool, true, false, ◌||◌, nat_eq, refl, sym, ap, ◌∙◌, ⊎_elim, arith, eq-eqb, bit_or, bit_and}
use Rattle.std.specs.Prelude.{◌==◌, min}
use Rattle.std.specs.Int.{bit_at, w32}
use Rattle.std.proofs.lemmas.Bool.{cases_eq}
use Rattle.std.proofs.lemmas.Nat.Bits.{bit_at-zero, bit_at_and, bit_at-lt, bit_at_set_same, bit_at_set_other, bit_at_above, same_from_bits}
use Rattle.tpl_model.proofs.BitSets.{bit_at_and_is}
use Rattle.tpl_model.proofs.MemberLemmas.{not_same}
use Rattle.tpl_model.proofs.Truths.{and_second}

-- the bit is set
abbrev pub is_one : ℕ → ℕ → Bool
is_one bits k = bit_at bits k == 1

pub none_set : (k : ℕ) → is_one 0 k ≡ false
none_set k = ap (λ b. b == 1) (bit_at-zero k)

pub set_more : (bits k j : ℕ) → k < 32 → is_one (bit_or bits (1 * 2 ^ k % 2 ^ 32)) j ≡ (nat_eq j k || is_one bits j)
set_more bits k j lt =
    ⊎_elim
    (λ same. ap (λ i. is_one (bit_or bits (1 * 2 ^ k % 2 ^ 32)) i) same
    ∙ (ap (λ b. b == 1) (bit_at_set_same w32 bits k lt)
    ∙ ap (λ t. t || is_one bits j) (sym (eq-eqb j k same))))
    (λ apart. ap (λ b. b == 1) (bit_at_set_other w32 bits k lt j apart)
    ∙ ap (λ t. t || is_one bits j) (sym (not_same j k apart)))
    (cases_eq j k)

pub none_above : (bits k : ℕ) → bits < 2 ^ 32 → 32 ≤ k → is_one bits k ≡ false
none_above bits k fits le = ap (λ b. b == 1) (bit_at_above bits 32 k fits le)

pub subset_from : (a b : ℕ) → bit_and a b ≡ a → (k : ℕ) → is_one a k ≡ true → is_one b k ≡ true
subset_from a b e k h = and_second (is_one a k) (is_one b k) (sym (bit_at_and_is a b k) ∙ (ap (λ x. is_one x k) e ∙ h))

min_bit : (u v : ℕ) → u < 2 → v < 2 → ((u == 1) ≡ true → (v == 1) ≡ true) → min u v ≡ u
min_bit zero zero p q h = refl
min_bit zero (suc zero) p q h = refl
min_bit (suc zero) zero p q h = let e = h refl in cc
min_bit (suc zero) (suc zero) p q h = refl
min_bit zero (suc (suc v)) p q h = absurd (omega arith)
min_bit (suc zero) (suc (suc v)) p q h = absurd (omega arith)
min_bit (suc (suc u)) v p q h = absurd (omega arith)

pub subset_is : (a b : ℕ) → ((k : ℕ) → is_one a k ≡ true → is_one b k ≡ true) → bit_and a b ≡ a
subset_is a b h = same_from_bits (bit_and a b) a (λ k. bit_at_and a b k ∙ min_bit (bit_at a k) (bit_at b k) (bit_at-lt a k) (bit_at-lt b k) (h k))
