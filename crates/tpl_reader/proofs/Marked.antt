-- A text of JSON has no byte order mark.
use Rattle.std.proofs.Common.{◌≡◌, ℕ, Bool, true, false, cond, List, [], ◌∷◌, take, drop, Some, None, refl, sym, subst, ap}
use Rattle.std.specs.Prelude.{IsUtf8}
use Rattle.std.specs.Str.{bytes_eq}
use Rattle.std.proofs.lemmas.Slice.Eq.{bytes_eq-Decides}
use Rattle.json.specs.Json.{value}
use Rattle.json.specs.Lex.{fresh, in_word, lex, punctuate, token, tokens}
use Rattle.json.specs.Token.{Token, bad}
use Rattle.json.specs.Word.{after_number, word}
use Rattle.serde_json.specs.Data.{Data}
use Rattle.serde_json.specs.Read.{max_depth, read}
use Rattle.tpl_reader.specs.Bytes.{behind_mark, mark}
use Rattle.tpl_reader.specs.Document.{Reads}

-- no JSON text begins with one
no_word : (text : List ℕ) → word (239 ∷ 187 ∷ 191 ∷ text) ≡ bad
unfolding word after_number
no_word text = refl

no_token : (text : List ℕ) → tokens (239 ∷ 187 ∷ 191 ∷ text) ≡ bad ∷ []
unfolding lex punctuate
no_token text = ap (λ (t : Token). punctuate fresh (token t ∷ lex in_word (187 ∷ 191 ∷ text))) (no_word text)

no_value : value max_depth (bad ∷ []) ≡ None
unfolding value
no_value = refl

refused : (text : List ℕ) (d : Data) → read (239 ∷ 187 ∷ 191 ∷ text) ≡ Some d → ⊥
refused text d e =
    let none : read (239 ∷ 187 ∷ 191 ∷ text) ≡ None = rw (no_token text, no_value) refl in
    absurd cc

marked : (text : List ℕ) → take 3 text ≡ mark → (rest : List ℕ) × (text ≡ 239 ∷ 187 ∷ 191 ∷ rest)
marked [] e = absurd cc
marked (x ∷ []) e = absurd cc
marked (x ∷ y ∷ []) e = absurd cc
marked (x ∷ y ∷ z ∷ rest) e = (rest, ap (λ (front : List ℕ). front_of front rest) e)
  where
    front_of : List ℕ → List ℕ → List ℕ
    front_of [] rest = rest
    front_of (x ∷ front) rest = x ∷ front_of front rest

unmarked : (text : List ℕ) (d : Data) → read text ≡ Some d → behind_mark text ≡ text
unfolding behind_mark
unmarked text d e = by_test (bytes_eq (take 3 text) mark) refl
  where
    by_test : (b : Bool) → bytes_eq (take 3 text) mark ≡ b → cond b (drop 3 text) text ≡ text
    by_test true is =
        let m = marked text ((bytes_eq-Decides (take 3 text) mark).0 is) in
        absurd (refused m.0 d (subst (λ (s : List ℕ). read s ≡ Some d) m.1 e))
    by_test false is = refl

-- what a text of JSON reads as
pub reads_text : (text : List ℕ) (d : Data) → IsUtf8 text → read text ≡ Some d → Reads text d
reads_text text d utf8 e =
    let same = sym (unmarked text d e) in
    (subst IsUtf8 same utf8, subst (λ (s : List ℕ). read s ≡ Some d) same e)
