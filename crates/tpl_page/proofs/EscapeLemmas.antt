-- Escaped texts.
use Rattle.std.proofs.Common.{◌≡◌, ◌++◌, ℕ, suc, ◌<◌, ◌≤◌, Bool, true, not, ◌&&◌, eqb, List, [], ◌∷◌, length, get_or, refl, sym, ap, ap₂, ◌∙◌, arith, append-nil, encode_utf8, encode_utf8_all, codes, inl, inr}
use Rattle.std.proofs.lemmas.List.Elements.{All-append, All-cons, All-nil}
use Rattle.std.proofs.lemmas.Bool.{and_parts, cases_lt, cases_eq}
use Rattle.std.proofs.lemmas.Bool.Decides.{nat_tests}
use Rattle.std.proofs.lemmas.Grind.{flat_map-append}
use Rattle.std.proofs.lemmas.Str.{encode_ascii, encodes-append, inside_one}
use Rattle.tpl_page.specs.Escape.{escaped, escaped_byte}
use Rattle.tpl_page.specs.Page.{HasNoTag}

-- a byte that is neither an ampersand nor a less-than sign is as it is
pub escaped_byte_plain : (b : ℕ) → (b ≡ 38 → ⊥) → (b ≡ 60 → ⊥) → escaped_byte b ≡ b ∷ []
escaped_byte_plain b amp less = grind (arith, nat_tests)

-- and so is a text of bytes beyond ASCII
escaped_high : (xs : List ℕ) → ((k : ℕ) → k < length xs → 128 ≤ get_or xs k 0) → escaped xs ≡ xs
escaped_high [] h = refl
escaped_high (x ∷ xs) h =
    let high : 128 ≤ x = h 0 (omega arith) in
    ap₂ (λ (a b : List ℕ). a ++ b) (escaped_byte_plain x (λ e. omega arith) (λ e. omega arith)) (escaped_high xs (λ k below. h (suc k) (omega arith)))

-- a character other than those two
pub escaped_letter : (c : ℕ) → (c ≡ 38 → ⊥) → (c ≡ 60 → ⊥) → escaped (encode_utf8 c) ≡ encode_utf8 c
escaped_letter c amp less = elim (cases_lt c 128) [
  | inl small ↦ rw (encode_ascii c small) (ap (λ z. z ++ []) (escaped_byte_plain c amp less))
  | inr big ↦
      let high : (k : ℕ) → k < length (encode_utf8 c) → 128 ≤ get_or (encode_utf8 c) k 0 = λ k below. elim (cases_lt (get_or (encode_utf8 c) k 0) 128) [
        | inl low ↦ absurd (omega (arith, inside_one c [] (encode_utf8 c) k (sym (append-nil _)) below low))
        | inr h ↦ h
      ] in
      escaped_high (encode_utf8 c) high
]

-- one character more
pub escaped_more : (cs : List ℕ) (c : ℕ) → escaped (encode_utf8_all (cs ++ c ∷ [])) ≡ escaped (encode_utf8_all cs) ++ escaped (encode_utf8 c)
escaped_more cs c =
    ap escaped (encodes-append cs (c ∷ []) ∙ ap (λ z. encode_utf8_all cs ++ z) (append-nil (encode_utf8 c))) ∙ flat_map-append escaped_byte (encode_utf8_all cs) (encode_utf8 c)

-- a byte other than a less-than sign, and more without one
closed_cons : (b : ℕ) (bs : List ℕ) → (b ≡ 60 → ⊥) → HasNoTag bs → HasNoTag (b ∷ bs)
closed_cons b bs = All-cons (λ x. x ≡ 60 → ⊥) b bs

closed_nil : HasNoTag []
closed_nil = All-nil (λ x. x ≡ 60 → ⊥)

-- that no byte is a less-than sign, computed
no_less : List ℕ → Bool
no_less [] = true
no_less (b ∷ bs) = not (eqb b 60) && no_less bs

other_byte : (b : ℕ) → not (eqb b 60) ≡ true → b ≡ 60 → ⊥
other_byte b e same = grind (arith, nat_tests)

closed_known : (bs : List ℕ) → no_less bs ≡ true → HasNoTag bs
unfolding no_less
closed_known [] e = closed_nil
closed_known (b ∷ bs) e = let both = and_parts _ _ e in closed_cons b bs (other_byte b both.0) (closed_known bs both.1)

-- the names of the two bytes
closed_amp : HasNoTag (codes "&amp;")
unfolding no_less
closed_amp = closed_known (codes "&amp;") refl

closed_less : HasNoTag (codes "&lt;")
unfolding no_less
closed_less = closed_known (codes "&lt;") refl

-- no tag begins in an escaped byte
closed_byte : (b : ℕ) → HasNoTag (escaped_byte b)
closed_byte b = elim (cases_eq b 38) [
  | inl amp ↦ rw amp closed_amp
  | inr other ↦ elim (cases_eq b 60) [
    | inl less ↦ rw less closed_less
    | inr plain ↦ rw (escaped_byte_plain b other plain) (closed_cons b [] plain closed_nil)
  ]
]

-- and so in none of a text
pub closed : (text : List ℕ) → HasNoTag (escaped text)
closed [] = closed_nil
closed (b ∷ bs) = All-append (λ x. x ≡ 60 → ⊥) (escaped_byte b) (escaped bs) (closed_byte b) (closed bs)

-- the same parts make the same text
pub of_parts : (text h m t head middle tail a s : List ℕ) → h ≡ head → m ≡ middle → t ≡ tail → text ≡ h ++ a ++ m ++ s ++ t → text ≡ head ++ a ++ middle ++ s ++ tail
of_parts text h m t head middle tail a s e f g is = is ∙ ap (λ z. z ++ a ++ m ++ s ++ t) e ∙ ap (λ z. head ++ a ++ z ++ s ++ t) f ∙ ap (λ z. head ++ a ++ middle ++ s ++ z) g
