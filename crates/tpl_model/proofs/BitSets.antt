-- Words of 64 bits as sets of numbers.
use Rattle.std.proofs.Common.{◌≡◌, ◌≢◌, ℕ, zero, suc, ◌+◌, ◌*◌, ◌/◌, ◌%◌, ◌^◌, ◌<◌, ◌≤◌, Bool, true, false, ◌&&◌, ◌||◌, List, [], ◌∷◌, length, get_or, nat_eq, nat_lt, refl, sym, ap, ◌∙◌, ⊎_elim, arith, eq-eqb, bit_or, bit_and}
use Rattle.std.specs.Prelude.{◌==◌, max, min, slice_set}
use Rattle.std.specs.Int.{bit_at, bit_not, trailing_zeros, w64}
use Rattle.std.proofs.lemmas.Bool.{eqb-true, ltb-true, cases_lt, cases_eq}
use Rattle.std.proofs.lemmas.List.{get_or_past, get_or-set_same, get_or-set_other, length-set}
use Rattle.std.proofs.lemmas.Nat.{and_le_l}
use Rattle.std.proofs.lemmas.Nat.Bits.{bit_at-zero, bit_at_or, bit_at_and, bit_at-lt, bit_at_set_same, bit_at_set_other, bit_at_clear_same, bit_at_clear_other, bit_at-trailing_zeros, same_from_bits_below}
use Rattle.tpl_model.proofs.Truths.{same_tests}
use Rattle.tpl_model.proofs.MemberLemmas.{not_same}
use Rattle.tpl_model.specs.Members.{mem}
use Rattle.tpl_model.specs.TaskSet.{AscendsWithin, IsTaskSet, IsSubset, is_set, members_of}
use Rattle.tpl_model.proofs.SetLists.{raised, same_members, mem-passing_from, passing_from-mem, passing_from-ascends}

within : (words : List ℕ) (x : ℕ) → is_set words x ≡ true → x < 64 * length words
within words x h =
    ⊎_elim
    (λ lt. lt)
    (λ le.
    let past : length words ≤ x / 64 = omega arith in
    let none : get_or words (x / 64) 0 ≡ 0 = get_or_past words (x / 64) 0 past in
    let bit = eqb-true (bit_at (get_or words (x / 64) 0) (x % 64)) 1 h in
    let nil = ap (λ w. bit_at w (x % 64)) none ∙ bit_at-zero (x % 64) in
    absurd (omega arith))
    (cases_lt x (64 * length words))

pub mem-members_of : (words : List ℕ) (x : ℕ) → mem x (members_of words) ≡ is_set words x
unfolding members_of
mem-members_of words x =
    same_tests (mem x (members_of words)) (is_set words x)
    (λ m. mem-passing_from (is_set words) 0 (64 * length words) x m)
    (λ h. let lt = within words x h in passing_from-mem (is_set words) 0 (64 * length words) x (omega arith) (omega arith) h)

pub members_of-set : (words : List ℕ) → length words ≡ 16 → IsTaskSet (members_of words)
unfolding members_of
members_of-set words long = passing_from-ascends (is_set words) 0 (64 * length words) 1024 (omega arith)

-- a set is shown by its members
pub members_of-is : (words xs : List ℕ) → length words ≡ 16 → IsTaskSet xs → ((x : ℕ) → is_set words x ≡ mem x xs) → members_of words ≡ xs
members_of-is words xs long set h = same_members 0 1024 (members_of words) xs (members_of-set words long) set (λ x. mem-members_of words x ∙ h x)

-- what joins two bits joins their tests
bit_test : (f : ℕ → ℕ → ℕ) (g : Bool → Bool → Bool) → (f 0 0 == 1) ≡ g false false → (f 0 1 == 1) ≡ g false true → (f 1 0 == 1) ≡ g true false → (f 1 1 == 1) ≡ g true true → (u v : ℕ) → u < 2 → v < 2 → (f u v == 1) ≡ g (u == 1) (v == 1)
bit_test f g a b c d zero zero p q = a
bit_test f g a b c d zero (suc zero) p q = b
bit_test f g a b c d (suc zero) zero p q = c
bit_test f g a b c d (suc zero) (suc zero) p q = d
bit_test f g a b c d zero (suc (suc v)) p q = absurd (omega arith)
bit_test f g a b c d (suc zero) (suc (suc v)) p q = absurd (omega arith)
bit_test f g a b c d (suc (suc u)) v p q = absurd (omega arith)

pub bit_at_or_is : (u v k : ℕ) → (bit_at (bit_or u v) k == 1) ≡ ((bit_at u k == 1) || (bit_at v k == 1))
bit_at_or_is u v k = ap (λ w. w == 1) (bit_at_or u v k) ∙ bit_test max (λ x y. x || y) refl refl refl refl (bit_at u k) (bit_at v k) (bit_at-lt u k) (bit_at-lt v k)

pub bit_at_and_is : (u v k : ℕ) → (bit_at (bit_and u v) k == 1) ≡ ((bit_at u k == 1) && (bit_at v k == 1))
bit_at_and_is u v k = ap (λ w. w == 1) (bit_at_and u v k) ∙ bit_test min (λ x y. x && y) refl refl refl refl (bit_at u k) (bit_at v k) (bit_at-lt u k) (bit_at-lt v k)

-- what is so of each of 16 words is so of each
each_word : (a b c : List ℕ) (f : ℕ → ℕ → ℕ) → f 0 0 ≡ 0 → length a ≡ 16 → length b ≡ 16 → length c ≡ 16 → ((k : ℕ) → k < 16 → get_or c k 0 ≡ f (get_or a k 0) (get_or b k 0)) → (k : ℕ) → get_or c k 0 ≡ f (get_or a k 0) (get_or b k 0)
each_word a b c f nil la lb lc h k =
    ⊎_elim
    (λ lt. h k lt)
    (λ le. let x : get_or a k 0 ≡ 0 = get_or_past a k 0 (omega arith) in
    let y : get_or b k 0 ≡ 0 = get_or_past b k 0 (omega arith) in
    let z : get_or c k 0 ≡ 0 = get_or_past c k 0 (omega arith) in
    z ∙ sym (ap (λ m. f m (get_or b k 0)) x ∙ (ap (f 0) y ∙ nil)))
    (cases_lt k 16)

-- the words below an index are made of those of a and b
pub record Filled (f : ℕ → ℕ → ℕ) (a b words : List ℕ) (i : ℕ) : Type 0 where
  pub long : length words ≡ 16
  pub each : (k : ℕ) → k < i → get_or words k 0 ≡ f (get_or a k 0) (get_or b k 0)

pub fill_more : (f : ℕ → ℕ → ℕ) (a b words : List ℕ) (i : ℕ) → i < 16 → Filled f a b words i → Filled f a b (slice_set words i (f (get_or a i 0) (get_or b i 0))) (i + 1)
fill_more f a b words i lt h = record {
  long = length-set words i (f (get_or a i 0) (get_or b i 0)) ∙ h.long;
  each = λ k below. ⊎_elim
      (λ same. ap (λ j. get_or (slice_set words i (f (get_or a i 0) (get_or b i 0))) j 0) same
      ∙ (get_or-set_same words i (f (get_or a i 0) (get_or b i 0)) 0 (let e = h.long in omega arith)
      ∙ ap (λ j. f (get_or a j 0) (get_or b j 0)) (sym same)))
      (λ apart. get_or-set_other words i k (f (get_or a i 0) (get_or b i 0)) 0 apart ∙ h.each k (omega arith))
      (cases_eq k i);
}

-- the members of what is made word by word
members_of-filled : (f : ℕ → ℕ → ℕ) (g : Bool → Bool → Bool) → f 0 0 ≡ 0 → ((u v k : ℕ) → (bit_at (f u v) k == 1) ≡ g (bit_at u k == 1) (bit_at v k == 1)) → (a b c : List ℕ) (i : ℕ) → 16 ≤ i → length a ≡ 16 → length b ≡ 16 → Filled f a b c i → (x : ℕ) → mem x (members_of c) ≡ g (mem x (members_of a)) (mem x (members_of b))
members_of-filled f g nil bit a b c i end la lb filled x =
    mem-members_of c x
    ∙ (ap (λ w. bit_at w (x % 64) == 1) (each_word a b c f nil la lb filled.long (λ k lt. filled.each k (omega arith)) (x / 64))
    ∙ (bit (get_or a (x / 64) 0) (get_or b (x / 64) 0) (x % 64)
    ∙ (ap (λ t. g t (is_set b x)) (sym (mem-members_of a x))
    ∙ ap (g (mem x (members_of a))) (sym (mem-members_of b x)))))

pub members_of-or : (a b c : List ℕ) (i : ℕ) → 16 ≤ i → length a ≡ 16 → length b ≡ 16 → Filled bit_or a b c i → (x : ℕ) → mem x (members_of c) ≡ (mem x (members_of a) || mem x (members_of b))
members_of-or = members_of-filled bit_or (λ p q. p || q) refl bit_at_or_is

pub members_of-and : (a b c : List ℕ) (i : ℕ) → 16 ≤ i → length a ≡ 16 → length b ≡ 16 → Filled bit_and a b c i → (x : ℕ) → mem x (members_of c) ≡ (mem x (members_of a) && mem x (members_of b))
members_of-and = members_of-filled bit_and (λ p q. p && q) refl bit_at_and_is

-- where one word changed at one bit, each other number is as it was
pub other_bit : (words : List ℕ) (t word x : ℕ) → t / 64 < length words → ((i : ℕ) → i < 64 → i ≢ t % 64 → bit_at word i ≡ bit_at (get_or words (t / 64) 0) i) → x ≢ t → is_set (slice_set words (t / 64) word) x ≡ is_set words x
other_bit words t word x place kept ne =
    ⊎_elim
    (λ same.
    let bit : x % 64 ≢ t % 64 = λ e. ne (omega arith) in
    ap (λ k. bit_at (get_or (slice_set words (t / 64) word) k 0) (x % 64) == 1) same
    ∙ (ap (λ w. bit_at w (x % 64) == 1) (get_or-set_same words (t / 64) word 0 place)
    ∙ (ap (λ b. b == 1) (kept (x % 64) (omega arith) bit)
    ∙ ap (λ k. bit_at (get_or words k 0) (x % 64) == 1) (sym same))))
    (λ apart. ap (λ w. bit_at w (x % 64) == 1) (get_or-set_other words (t / 64) (x / 64) word 0 apart))
    (cases_eq (x / 64) (t / 64))

pub this_bit : (words : List ℕ) (t word x b : ℕ) → t / 64 < length words → bit_at word (t % 64) ≡ b → x ≡ t → is_set (slice_set words (t / 64) word) x ≡ (b == 1)
this_bit words t word x b place e same =
    ap (is_set (slice_set words (t / 64) word)) same
    ∙ (ap (λ w. bit_at w (t % 64) == 1) (get_or-set_same words (t / 64) word 0 place)
    ∙ ap (λ c. c == 1) e)

-- one more bit
pub members_of-insert : (words : List ℕ) (t : ℕ) → t < 64 * length words → (x : ℕ) → mem x (members_of (slice_set words (t / 64) (bit_or (get_or words (t / 64) 0) (1 * 2 ^ (t % 64) % 2 ^ 64)))) ≡ (nat_eq x t || mem x (members_of words))
members_of-insert words t lt x =
    let place : t / 64 < length words = omega arith in
    let old : ℕ = get_or words (t / 64) 0 in
    let word : ℕ = bit_or old (1 * 2 ^ (t % 64) % 2 ^ 64) in
    let small : t % 64 < 64 = omega arith in
    mem-members_of (slice_set words (t / 64) word) x
    ∙ ⊎_elim
    (λ same. this_bit words t word x 1 place (bit_at_set_same w64 old (t % 64) small) same ∙ sym (ap (λ b. b || mem x (members_of words)) (eq-eqb x t same)))
    (λ ne. other_bit words t word x place (λ i lt ne. bit_at_set_other w64 old (t % 64) small i ne) ne
    ∙ (sym (mem-members_of words x) ∙ sym (ap (λ b. b || mem x (members_of words)) (not_same x t ne))))
    (cases_eq x t)

-- `contains` of a number past the words
pub contains_past : (words : List ℕ) (t : ℕ) → length words ≡ 16 → 16 ≤ t / 64 → nat_lt (t / 64) 16 ≡ mem t (members_of words)
contains_past words t len le =
    same_tests (nat_lt (t / 64) 16) (mem t (members_of words))
    (λ h. let lt : t / 64 < 16 = ltb-true (t / 64) 16 h in absurd (omega arith))
    (λ h. let lt = within words t (sym (mem-members_of words t) ∙ h) in absurd (omega arith))

bit_kept : (x y i : ℕ) → bit_and x y ≡ x → (bit_at x i == 1) ≡ true → (bit_at y i == 1) ≡ true
bit_kept x y i e h =
    let x_one = eqb-true (bit_at x i) 1 h in
    let both = bit_at_and x y i in
    let kept : bit_at (bit_and x y) i ≡ bit_at x i = ap (λ w. bit_at w i) e in
    let small = bit_at-lt y i in
    eq-eqb (bit_at y i) 1 (omega arith)

pub subset_of_words : (a b : List ℕ) → length a ≡ 16 → ((k : ℕ) → k < 16 → bit_and (get_or a k 0) (get_or b k 0) ≡ get_or a k 0) → IsSubset (members_of a) (members_of b)
subset_of_words a b la h = λ x m.
    let in_a = sym (mem-members_of a x) ∙ m in
    let lt = within a x in_a in
    let place : x / 64 < 16 = omega arith in
    mem-members_of b x ∙ bit_kept (get_or a (x / 64) 0) (get_or b (x / 64) 0) (x % 64) (h (x / 64) place) in_a

pub no_subset : (a b : List ℕ) (k : ℕ) → get_or a k 0 < 2 ^ 64 → (bit_and (get_or a k 0) (get_or b k 0) ≡ get_or a k 0 → ⊥) → IsSubset (members_of a) (members_of b) → ⊥
no_subset a b k fits differ sub =
    differ (same_from_bits_below 64 (bit_and u v) u (le_lt (and_le_l u v)) fits (λ i lt. bit_at_and u v i ∙ least i lt))
  where
    u : ℕ
    u = get_or a k 0

    v : ℕ
    v = get_or b k 0

    le_lt : bit_and u v ≤ u → bit_and u v < 2 ^ 64
    le_lt le = omega arith

    moved : (i : ℕ) → i < 64 → bit_at u i ≡ 1 → bit_at v i ≡ 1
    moved i lt one =
        let x = 64 * k + i in
        let d : x / 64 ≡ k = omega arith in
        let m : x % 64 ≡ i = omega arith in
        let in_a : is_set a x ≡ true = ap (λ j. bit_at (get_or a j 0) (x % 64) == 1) d ∙ (ap (λ j. bit_at u j == 1) m ∙ eq-eqb (bit_at u i) 1 one) in
        let in_b : is_set b x ≡ true = sym (mem-members_of b x) ∙ sub x (mem-members_of a x ∙ in_a) in
        eqb-true (bit_at v i) 1 (sym (ap (λ j. bit_at (get_or b j 0) (x % 64) == 1) d ∙ ap (λ j. bit_at v j == 1) m) ∙ in_b)

    least : (i : ℕ) → i < 64 → min (bit_at u i) (bit_at v i) ≡ bit_at u i
    least i lt = ⊎_elim (λ one. let two = moved i lt one in omega arith) (λ other. let small = bit_at-lt u i in omega arith) (cases_eq (bit_at u i) 1)

pub same_sets : (xs ys : List ℕ) → IsTaskSet xs → IsTaskSet ys → IsSubset xs ys → IsSubset ys xs → xs ≡ ys
same_sets xs ys a b p q = same_members 0 1024 xs ys a b (λ x. same_tests (mem x xs) (mem x ys) (p x) (q x))

-- the words below an index are empty
pub record EmptyBelow (words : List ℕ) (i : ℕ) : Type 0 where
  pub long : length words ≡ 16
  pub none : (k : ℕ) → k < i → get_or words k 0 ≡ 0

-- no word has a bit
pub members_of-empty : (words : List ℕ) (i : ℕ) → 16 ≤ i → EmptyBelow words i → members_of words ≡ []
members_of-empty words i end h = members_of-is words [] h.long tt (λ x. no_bit words x (all x))
  where
    all : (x : ℕ) → get_or words (x / 64) 0 ≡ 0
    all x = ⊎_elim (λ lt. h.none (x / 64) lt) (λ le. get_or_past words (x / 64) 0 (let e = h.long in omega arith)) (cases_lt (x / 64) i)

    no_bit : (words : List ℕ) (x : ℕ) → get_or words (x / 64) 0 ≡ 0 → is_set words x ≡ false
    no_bit words x e = ap (λ w. bit_at w (x % 64) == 1) e ∙ ap (λ b. b == 1) (bit_at-zero (x % 64))

abbrev pub without_first : ℕ → ℕ
without_first word = bit_and word (bit_not w64 (1 * 2 ^ trailing_zeros w64 word % 2 ^ 64))

-- where the words below the i-th are empty: x is one of their bits before the first of that word
no_bit_before : (words : List ℕ) (i x : ℕ) → get_or words i 0 < 2 ^ 64 → 0 < get_or words i 0 → EmptyBelow words i → x < 64 * i + trailing_zeros w64 (get_or words i 0) → is_set words x ≡ true → ⊥
no_bit_before words i x fits some h lt set =
    let one : bit_at (get_or words (x / 64) 0) (x % 64) ≡ 1 = eqb-true (bit_at (get_or words (x / 64) 0) (x % 64)) 1 set in
    let first = bit_at-trailing_zeros w64 (get_or words i 0) some fits in
    let small = first.0 in
    ⊎_elim
    (λ below. let nil = ap (λ w. bit_at w (x % 64)) (h.none (x / 64) below) ∙ bit_at-zero (x % 64) in let e = sym one ∙ nil in cc)
    (λ at.
    let same : x / 64 ≡ i = omega arith in
    let before : x % 64 < trailing_zeros w64 (get_or words i 0) = omega arith in
    let here = ap (λ k. bit_at (get_or words k 0) (x % 64)) same in
    let e = sym one ∙ (here ∙ first.2 (x % 64) before) in
    cc)
    (cases_lt (x / 64) i)

-- the first bit is the least member, and without it the others are left
pub members_of-first : (words : List ℕ) (i t : ℕ) → i < 16 → get_or words i 0 < 2 ^ 64 → 0 < get_or words i 0 → EmptyBelow words i → t ≡ 64 * i + trailing_zeros w64 (get_or words i 0) → members_of words ≡ t ∷ members_of (slice_set words i (without_first (get_or words i 0)))
members_of-first words i t lt fits some h is =
    let e = h.long in
    let s = small in
    members_of-is words (t ∷ members_of left) h.long (omega arith, omega arith, above) same
  where
    word : ℕ
    word = get_or words i 0

    first : ℕ
    first = trailing_zeros w64 word

    left : List ℕ
    left = slice_set words i (without_first word)

    small : first < 64
    small = (bit_at-trailing_zeros w64 word some fits).0

    at_word : t / 64 ≡ i
    at_word = let s = small in omega arith

    at_bit : t % 64 ≡ first
    at_bit = let s = small in omega arith

    place : t / 64 < length words
    place = let e = h.long in let d = at_word in omega arith

    left_is : slice_set words (t / 64) (without_first word) ≡ left
    left_is = ap (λ k. slice_set words k (without_first word)) at_word

    long : length left ≡ 16
    long = length-set words i (without_first word) ∙ h.long

    cleared : is_set left t ≡ false
    cleared =
        ap (λ l. is_set l t) (sym left_is)
        ∙ this_bit words t (without_first word) t 0 place (ap (bit_at (without_first word)) at_bit ∙ bit_at_clear_same w64 word first small) refl

    kept : (x : ℕ) → x ≢ t → is_set left x ≡ is_set words x
    kept x ne =
        ap (λ l. is_set l x) (sym left_is)
        ∙ other_bit words t (without_first word) x place (λ b lt ne. bit_at_clear_other w64 word first small b lt (λ e. ne (e ∙ sym at_bit)) ∙ ap (λ k. bit_at (get_or words k 0) b) (sym at_word)) ne

    has : is_set words t ≡ true
    has =
        ap (λ k. bit_at (get_or words k 0) (t % 64) == 1) at_word
        ∙ (ap (λ b. bit_at word b == 1) at_bit ∙ ap (λ b. b == 1) (bit_at-trailing_zeros w64 word some fits).1)

    beyond : (x : ℕ) → mem x (members_of left) ≡ true → suc t ≤ x
    beyond x m =
        let set : is_set left x ≡ true = sym (mem-members_of left x) ∙ m in
        ⊎_elim
        (λ same. let e = sym (ap (is_set left) same ∙ cleared) ∙ set in cc)
        (λ ne. ⊎_elim
        (λ lt. absurd (no_bit_before words i x fits some h (omega arith) (sym (kept x ne) ∙ set)))
        (λ le. omega arith)
        (cases_lt x t))
        (cases_eq x t)

    above : AscendsWithin (suc t) 1024 (members_of left)
    above = raised 0 (suc t) 1024 (members_of left) (members_of-set left long) beyond

    same : (x : ℕ) → is_set words x ≡ mem x (t ∷ members_of left)
    same x =
        ⊎_elim
        (λ e. ap (is_set words) e ∙ (has ∙ sym (ap (λ b. b || mem x (members_of left)) (eq-eqb x t e))))
        (λ ne. sym (kept x ne) ∙ (sym (mem-members_of left x) ∙ sym (ap (λ b. b || mem x (members_of left)) (not_same x t ne))))
        (cases_eq x t)
