-- Words of 64 bits as sets of numbers.
use Rattle.std.proofs.Common.{◌≡◌, ◌≢◌, ℕ, ◌+◌, ◌*◌, ◌/◌, ◌%◌, ◌^◌, ◌<◌, ◌≤◌, Bool, true, false, List, length, get_or, nat_eq, refl, sym, ap, ◌∙◌, ⊎_elim, arith, eq-eqb, bit_or, bit_and}
use Rattle.std.specs.Prelude.{◌==◌, slice_set, if◌then◌else◌}
use Rattle.std.specs.Int.{bit_at, bit_not, trailing_zeros, w64}
use Rattle.std.proofs.lemmas.Bool.{cases_lt, cases_eq}
use Rattle.std.proofs.lemmas.List.{get_or_past}
use Rattle.std.proofs.lemmas.Nat.Bits.{bit_at-zero, bit_at_set_same, bit_at_set_other, bit_at_clear_same, bit_at_clear_other, bit_at-trailing_zeros}
use Rattle.tpl_model.proofs.MemberLemmas.{not_same}
use Rattle.tpl_model.proofs.BitSets.{this_bit, other_bit}
use Rattle.tpl_model.specs.TaskSet.{is_set}

-- one word with one bit changed
changed : (words : List ℕ) (t word x : ℕ) (member : Bool) (b : ℕ) → t / 64 < length words → bit_at word (t % 64) ≡ b → (b == 1) ≡ member → ((i : ℕ) → i < 64 → i ≢ t % 64 → bit_at word i ≡ bit_at (get_or words (t / 64) 0) i) → is_set (slice_set words (t / 64) word) x ≡ (if nat_eq x t then member else is_set words x)
changed words t word x member b place here is kept =
    ⊎_elim
    (λ same. this_bit words t word x b place here same ∙ (is ∙ sym (ap (λ (c : Bool). if c then member else is_set words x) (eq-eqb x t same))))
    (λ ne. other_bit words t word x place kept ne ∙ sym (ap (λ (c : Bool). if c then member else is_set words x) (not_same x t ne)))
    (cases_eq x t)

pub inserted : (words : List ℕ) (t : ℕ) → t < 64 * length words → (x : ℕ) → is_set (slice_set words (t / 64) (bit_or (get_or words (t / 64) 0) (1 * 2 ^ (t % 64) % 2 ^ 64))) x ≡ (if nat_eq x t then true else is_set words x)
inserted words t lt x =
    let place : t / 64 < length words = omega arith in
    let old : ℕ = get_or words (t / 64) 0 in
    let small : t % 64 < 64 = omega arith in
    changed words t (bit_or old (1 * 2 ^ (t % 64) % 2 ^ 64)) x true 1 place (bit_at_set_same w64 old (t % 64) small) refl (λ i lt ne. bit_at_set_other w64 old (t % 64) small i ne)

pub removed : (words : List ℕ) (t : ℕ) → t < 64 * length words → (x : ℕ) → is_set (slice_set words (t / 64) (bit_and (get_or words (t / 64) 0) (bit_not w64 (1 * 2 ^ (t % 64) % 2 ^ 64)))) x ≡ (if nat_eq x t then false else is_set words x)
removed words t lt x =
    let place : t / 64 < length words = omega arith in
    let old : ℕ = get_or words (t / 64) 0 in
    let small : t % 64 < 64 = omega arith in
    changed words t (bit_and old (bit_not w64 (1 * 2 ^ (t % 64) % 2 ^ 64))) x false 0 place (bit_at_clear_same w64 old (t % 64) small) refl (λ i lt ne. bit_at_clear_other w64 old (t % 64) small i lt ne)

unset : (words : List ℕ) (x : ℕ) → get_or words (x / 64) 0 ≡ 0 → is_set words x ≡ false
unset words x e = ap (λ w. bit_at w (x % 64) == 1) e ∙ ap (λ b. b == 1) (bit_at-zero (x % 64))

-- the words below an index are empty
abbrev pub EmptyBelow : List ℕ → ℕ → Type 0
EmptyBelow words i = (k : ℕ) → k < i → get_or words k 0 ≡ 0

pub all_unset : (words : List ℕ) (i : ℕ) → length words ≤ i → EmptyBelow words i → (x : ℕ) → is_set words x ≡ false
all_unset words i end h x = unset words x (⊎_elim (λ lt. h (x / 64) lt) (λ le. get_or_past words (x / 64) 0 (omega arith)) (cases_lt (x / 64) i))

not_one : (b : ℕ) → b ≡ 0 → (b == 1) ≡ false
not_one b e = ap (λ c. c == 1) e

-- the first bit of the first word that isn't empty
pub first_set : (words : List ℕ) (i t : ℕ) → get_or words i 0 < 2 ^ 64 → 0 < get_or words i 0 → EmptyBelow words i → t ≡ 64 * i + trailing_zeros w64 (get_or words i 0) → (is_set words t ≡ true) × ((s : ℕ) → s < t → is_set words s ≡ false)
first_set words i t fits some h is = (here, before)
  where
    word : ℕ
    word = get_or words i 0

    first : (trailing_zeros w64 word < 64) × (bit_at word (trailing_zeros w64 word) ≡ 1) × ((b : ℕ) → b < trailing_zeros w64 word → bit_at word b ≡ 0)
    first = bit_at-trailing_zeros w64 word some fits

    at_word : t / 64 ≡ i
    at_word = let s = first.0 in omega arith

    at_bit : t % 64 ≡ trailing_zeros w64 (get_or words i 0)
    at_bit = let s = first.0 in omega arith

    here : is_set words t ≡ true
    here =
        ap (λ k. bit_at (get_or words k 0) (t % 64) == 1) at_word
        ∙ (ap (λ b. bit_at word b == 1) at_bit ∙ ap (λ b. b == 1) first.1)

    before : (s : ℕ) → s < t → is_set words s ≡ false
    before s lt =
        ⊎_elim
        (λ below. unset words s (h (s / 64) below))
        (λ at.
        let same : s / 64 ≡ i = (let f = first.0 in omega arith) in
        let low : s % 64 < trailing_zeros w64 (get_or words i 0) = omega arith in
        not_one (bit_at (get_or words (s / 64) 0) (s % 64)) (ap (λ k. bit_at (get_or words k 0) (s % 64)) same ∙ first.2 (s % 64) low))
        (cases_lt (s / 64) i)
