-- The bytes that come, and the lines in them.
use Rattle.std.proofs.Common.{◌≡◌, ℕ, zero, suc, ◌<◌, ◌+◌, ◌-◌, List, [], ◌∷◌, ◌++◌, length, take, drop, Option, Some, None, refl, sym, ap, ◌∙◌, subst, append_assoc, append-nil, length-append, arith}
use Rattle.std.specs.Prelude.{IfSome, slice_range}
use Rattle.std.specs.Io.KnownBytes.{Consumes, IsAtEnd, prepend_known}
use Rattle.std.specs.List.{All}
use Rattle.tpl_journal.proofs.CutLemmas.{lacks-append}
use Rattle.tpl_journal.proofs.Known.{consumes_more}
use Rattle.std.specs.Prelude.{string_bytes}
use Rattle.std.specs.declared.alloc.Global.{Global}
use Rattle.std.specs.declared.vec.Vec.{Vec}
use Rattle.tpl_commands.specs.Responding.{Answers, Says}
use Rattle.tpl_commands.specs.declared.answer.Answer.{Answer}
use Rattle.tpl_commands.proofs.Responses.{says}
use Rattle.tpl_each.proofs.Breaks.{broken_push}
use Rattle.tpl_each.specs.declared.line.Line.{Line}
use Rattle.tpl_each.specs.declared.line.Line.TheVariants.{Whole, TooLong, Lost}
use Rattle.tpl_each.specs.declared.next.Next.TheVariants as next
use Rattle.tpl_each.specs.Coming.{Comes}
use Rattle.tpl_each.specs.Kept.{IsKept}
use Rattle.tpl_each.specs.Lines.{IsLine, broken, AreLines}

-- what is kept of a line stays so where nothing is added
pub kept_same : (input more : List ℕ) (line : Line) → length more ≡ 0 → IsKept input line → IsKept (input ++ more) line
kept_same input [] line e kept = subst (λ z. IsKept z line) (sym (append-nil input)) kept
kept_same input (b ∷ more) line e kept = absurd (omega arith)

pub too_long : (input more : List ℕ) → IsKept input TooLong → IsKept (input ++ more) TooLong
too_long input more kept = let size = length-append input more in omega arith

pub lost : (input more : List ℕ) → IsKept input Lost → IsKept (input ++ more) Lost
lost input more kept = let size = length-append input more in omega arith

module _ (rest : Option (List ℕ)) where
  -- some bytes of those that were read are taken
  pub consumes_ahead : (old new more : List ℕ) → old ≡ more ++ new → Consumes (prepend_known old rest) (prepend_known new rest) more
  consumes_ahead old new more e = by_rest rest
    where
      by_rest : (r : Option (List ℕ)) → Consumes (prepend_known old r) (prepend_known new r) more
      by_rest None = tt
      by_rest (Some xs) = ap (λ z. z ++ xs) e ∙ append_assoc more new xs

-- others are read in place of none
pub consumes_refill : (rest next : Option (List ℕ)) (ahead : List ℕ) → Consumes rest next ahead → Consumes (prepend_known [] rest) (prepend_known ahead next) []
consumes_refill None next ahead p = tt
consumes_refill (Some xs) None ahead p = absurd p
consumes_refill (Some xs) (Some ys) ahead p = p

-- a line with its break
pub line_comes : (old rest : Option (List ℕ)) (before after input more : List ℕ) (line : Line) → IsLine input → Consumes old (prepend_known before rest) input
    → IsLine more → IsKept (input ++ more) line → before ≡ more ++ (10 ∷ after) → Comes old (prepend_known after rest) (next.Line line)
line_comes old rest before after input more line is read more_is kept e = (
  input ++ more,
  lacks-append 10 input more is more_is,
  kept,
  subst (Consumes old (prepend_known after rest)) (sym (append_assoc input more (10 ∷ [])))
      (consumes_more old (prepend_known before rest) (prepend_known after rest) input (more ++ 10 ∷ []) read
      (consumes_ahead rest before after (more ++ 10 ∷ []) (e ∙ sym (append_assoc more (10 ∷ []) after)))),
)

-- all that was read belongs to the line, and more was read
pub open_comes : (old rest next : Option (List ℕ)) (before after input ahead : List ℕ) → Consumes old (prepend_known before rest) input → after ≡ []
    → Consumes rest next ahead → Consumes old (prepend_known ahead next) (input ++ before)
open_comes old rest next before after input ahead read none more =
    subst (Consumes old (prepend_known ahead next)) (append-nil (input ++ before))
    (consumes_more old (prepend_known [] rest) (prepend_known ahead next) (input ++ before) []
    (consumes_more old (prepend_known before rest) (prepend_known [] rest) input before read
    (consumes_ahead rest before [] before (sym (append-nil before))))
    (consumes_refill rest next ahead more))

-- all that was read belongs to the line, and nothing comes behind it
pub end_comes : (old rest next : Option (List ℕ)) (before after input ahead : List ℕ) → Consumes old (prepend_known before rest) input → after ≡ []
    → Consumes rest next ahead → length ahead ≡ 0 → IsAtEnd next → IfSome old (λ bytes. bytes ≡ input ++ before)
end_comes old rest next before after input [] read none more empty end =
    at_end old next (open_comes old rest next before after input [] read none more) end
  where
    at_end : (o n : Option (List ℕ)) → Consumes o (prepend_known [] n) (input ++ before) → IsAtEnd n → IfSome o (λ bytes. bytes ≡ input ++ before)
    at_end None n p e = tt
    at_end (Some xs) None p e = absurd p
    at_end (Some xs) (Some ys) p e = p ∙ (ap (λ z. (input ++ before) ++ z) e ∙ append-nil (input ++ before))
end_comes old rest next before after input (b ∷ ahead) read none more empty end = absurd (omega arith)

-- the first so many bytes are dropped
pub skipped : (block : List ℕ) (start end count : ℕ) → slice_range block (start + count) end ≡ drop count (slice_range block start end)
skipped block start end count =
    ap (λ n. take n (drop (start + count) block)) (let e : end - (start + count) ≡ end - start - count = omega arith in e)
    ∙ (ap (take (end - start - count)) (sym (drop_twice start count block))
    ∙ sym (drop_of_take count (end - start) (drop start block)))
  where
    drop_twice : (n m : ℕ) (xs : List ℕ) → drop m (drop n xs) ≡ drop (n + m) xs
    drop_twice zero m xs = ap (λ k. drop k xs) (let e : m ≡ 0 + m = omega arith in e)
    drop_twice (suc n) zero [] = ap (λ k. drop k []) (let e : suc (n + 0) ≡ suc n + 0 = omega arith in e)
    drop_twice (suc n) (suc m) [] = ap (λ k. drop k []) (let e : suc (n + suc m) ≡ suc n + suc m = omega arith in e)
    drop_twice (suc n) m (x ∷ xs) = drop_twice n m xs ∙ ap (λ k. drop k (x ∷ xs)) (let e : suc (n + m) ≡ suc n + m = omega arith in e)

    drop_of_take : (n m : ℕ) (xs : List ℕ) → drop n (take m xs) ≡ take (m - n) (drop n xs)
    drop_of_take zero m xs = ap (λ k. take k xs) (let e : m ≡ m - 0 = omega arith in e)
    drop_of_take (suc n) zero [] = ap (λ k. take k []) (let e : 0 ≡ 0 - suc n = omega arith in e)
    drop_of_take (suc n) zero (x ∷ xs) = ap (λ k. take k (drop n xs)) (let e : 0 ≡ 0 - suc n = omega arith in e) ∙ refl
    drop_of_take (suc n) (suc m) [] = none (suc m - suc n)
      where
        none : (k : ℕ) → [] ≡ take k (drop {A = ℕ} (suc n) [])
        none zero = refl
        none (suc k) = refl
    drop_of_take (suc n) (suc m) (x ∷ xs) = drop_of_take n m xs ∙ ap (λ k. take k (drop n xs)) (let e : m - n ≡ suc m - suc n = omega arith in e)

-- the last line has no break
pub last_came : (old now : Option (List ℕ)) (lines : List (List ℕ)) (input : List ℕ) → All IsLine lines → IsLine input → 0 < length input → Consumes old now (broken lines) → IfSome now (λ bytes. bytes ≡ input)
    → IfSome old (AreLines (lines ++ input ∷ []))
last_came None now lines input each is some read all = tt
last_came (Some xs) None lines input each is some read all = absurd read
last_came (Some xs) (Some ys) lines [] each is some read all = absurd (omega arith)
last_came (Some xs) (Some ys) lines (b ∷ input) each is some read all = record {
  front = lines;
  each = each;
  rest = b ∷ input;
  unbroken = is;
  joined = read ∙ ap (λ z. broken lines ++ z) all;
  all = refl;
}

-- one more line came
pub more_came : (old now new : Option (List ℕ)) (lines : List (List ℕ)) (input : List ℕ) → Consumes old now (broken lines) → Consumes now new (input ++ 10 ∷ []) → Consumes old new (broken (lines ++ input ∷ []))
more_came old now new lines input read more =
    subst (Consumes old new) (sym (broken_push lines input)) (consumes_more old now new (broken lines) (input ++ 10 ∷ []) read more)

-- what the command answers to a line that was kept whole
pub says_line : (answers : Answers) (input : List ℕ) (bytes : Vec ℕ Global) (line : Line) (shown : List ℕ) (answer : Answer) → line ≡ Whole bytes → shown ≡ bytes.items → IsKept input line
    → answers shown answer.exit (string_bytes answer.text) → Says answers input answer.exit (string_bytes answer.text)
says_line answers input bytes line shown answer is value kept said =
    let whole : IsKept input (Whole bytes) = subst (IsKept input) is kept in
    says answers input answer.exit (string_bytes answer.text) answer.verdict whole.1 (subst (λ z. answers z answer.exit (string_bytes answer.text)) (value ∙ whole.0) said)
