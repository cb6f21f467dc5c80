-- Lines and their breaks.
use Rattle.std.proofs.Common.{◌≡◌, ℕ, zero, suc, ◌+◌, ◌<◌, List, [], ◌∷◌, ◌++◌, length, get_or, take, drop, true, Option, Some, None, refl, sym, ap, ◌∙◌, append_assoc, arith}
use Rattle.std.specs.Prelude.{◌==◌, MatchOption, slice_index}
use Rattle.std.proofs.lemmas.Bool.Decides.{nat_tests}
use Rattle.std.proofs.lemmas.List.{get_or-take, length-take, take_more}
use Rattle.memchr.specs.Find.{IsFirstByte, is_byte}
use Rattle.tpl_journal.proofs.CutLemmas.{lacks_at}
use Rattle.std.specs.List.{All}
use Rattle.std.proofs.lemmas.List.Elements.{All-append}
use Rattle.tpl_each.specs.Lines.{IsFirstBreak, IsLine, broken, BeginWith, AreLines}

pub broken-append : (a b : List (List ℕ)) → broken (a ++ b) ≡ broken a ++ broken b
broken-append [] b = refl
broken-append (line ∷ a) b =
    ap (λ z. line ++ (10 ∷ z)) (broken-append a b) ∙ sym (append_assoc line (10 ∷ broken a) (broken b))

-- one more line
pub broken_push : (a : List (List ℕ)) (line : List ℕ) → broken (a ++ line ∷ []) ≡ broken a ++ (line ++ 10 ∷ [])
broken_push a line = broken-append a (line ∷ [])

-- more lines of the rest are more lines of the bytes
pub lines_then : (bytes rest : List ℕ) (front more : List (List ℕ)) → All IsLine front → bytes ≡ broken front ++ rest → AreLines more rest → AreLines (front ++ more) bytes
lines_then bytes rest front more each e are = record {
  front = front ++ are.front;
  each = All-append IsLine front are.front each are.each;
  rest = are.rest;
  unbroken = are.unbroken;
  joined = e ∙ (ap (λ z. broken front ++ z) are.joined ∙ (sym (append_assoc (broken front) (broken are.front) are.rest) ∙ ap (λ z. z ++ are.rest) (sym (broken-append front are.front))));
  all = ap (λ z. front ++ z) are.all ∙ sym (append_assoc front are.front _);
}

pub begin_then : (bytes rest : List ℕ) (front more : List (List ℕ)) → All IsLine front → bytes ≡ broken front ++ rest → BeginWith more rest → BeginWith (front ++ more) bytes
begin_then bytes rest front more each e are = record {
  each = All-append IsLine front more each are.each;
  rest = are.rest;
  joined = e ∙ (ap (λ z. broken front ++ z) are.joined ∙ (sym (append_assoc (broken front) (broken more) are.rest) ∙ ap (λ z. z ++ are.rest) (sym (broken-append front more))));
}

-- the bytes, cut at their first line break
pub cut_at : (bytes : List ℕ) (place : ℕ) → IsFirstBreak bytes place → bytes ≡ take place bytes ++ (10 ∷ drop (place + 1) bytes)
cut_at bytes place is = behind bytes place is.within is.at
  where
    behind : (xs : List ℕ) (n : ℕ) → n < length xs → get_or xs n 0 ≡ 10 → xs ≡ take n xs ++ (10 ∷ drop (n + 1) xs)
    behind [] n lt e = absurd (omega arith)
    behind (x ∷ xs) zero lt e = ap (λ z. z ∷ xs) e
    behind (x ∷ xs) (suc n) lt e =
        ap (λ z. x ∷ z) (behind xs n (omega arith) e)
        ∙ ap (λ k. x ∷ (take n xs ++ (10 ∷ drop k (x ∷ xs)))) (let f : suc (n + 1) ≡ suc n + 1 = omega arith in f)

-- the bytes up to their first line break, and with it
pub front_at : (bytes : List ℕ) (place : ℕ) → IsFirstBreak bytes place → take (place + 1) bytes ≡ take place bytes ++ 10 ∷ []
front_at bytes place is = take_more bytes place 0 is.within ∙ ap (λ z. take place bytes ++ z ∷ []) is.at

is_it : (x c : ℕ) → (x == c) ≡ true → x ≡ c
is_it x c h = grind (arith, nat_tests)

-- the search for a line break found the first one, or there is none
pub break_found : (bytes : List ℕ) (r : Option ℕ) → IsFirstByte (is_byte 10) bytes r → MatchOption r (IsLine bytes) (IsFirstBreak bytes)
break_found bytes None none = lacks_at 10 bytes (λ i lt e. none i (omega arith) lt (ap (λ x. x == 10) e))
break_found bytes (Some place) found = record {
  within = found.0.high;
  before = lacks_at 10 (take place bytes) (λ i lt e.
      let size = length-take place bytes in
      let less : i < place = omega arith in
      found.0.before i (omega arith) less (ap (λ x. x == 10) (sym (get_or-take place bytes i 0 less) ∙ e)));
  at = is_it (slice_index bytes place) 10 found.1;
}
