-- The words for verdicts.
use Rattle.std.specs.Prelude.{◌≡◌, ℕ, Bool, true, false, Some, None, List, codes, count_by, length}
use Rattle.tpl_verify.specs.declared.verdict.Verdict.{Verdict}
use Rattle.tpl_verify.specs.declared.verdict.Verdict.TheVariants as verdict
use Rattle.tpl_verdicts.specs.declared.sums.Sums.{Sums}
use Rattle.tpl_verdicts.specs.declared.word.Word.{Word}
use Rattle.tpl_verdicts.specs.declared.word.Word.TheVariants.{Holds, Fails, Empty, Unknown}

-- the word for a verdict
abbrev pub word_of : Verdict → Word
word_of (verdict.Holds certificate splits None) = Holds
word_of (verdict.Holds certificate splits (Some why)) = Empty
word_of (verdict.Fails run) = Fails
word_of (verdict.Unknown tried) = Unknown

-- the word as it is written
abbrev pub word_text : Word → List ℕ
word_text Holds = codes "holds"
word_text Fails = codes "fails"
word_text Empty = codes "empty"
word_text Unknown = codes "unknown"

-- the claim holds, and nothing says that it is empty
abbrev pub SaysHolds : Word → Type 0
SaysHolds word = word ≡ Holds

-- both are the same word
abbrev pub same_word : Word → Word → Bool
same_word Holds Holds = true
same_word Fails Fails = true
same_word Empty Empty = true
same_word Unknown Unknown = true
same_word one other = false

-- how many of the words are this one
abbrev pub count_of : List Word → Word → ℕ
count_of words word = count_by (λ one. same_word one word) words

-- how many claims there are, and how many of each word
pub record AreSums (words : List Word) (sums : Sums) : Type 0 where
  pub claims : sums.claims ≡ length words
  pub holds : sums.holds ≡ count_of words Holds
  pub fails : sums.fails ≡ count_of words Fails
  pub empty : sums.empty ≡ count_of words Empty
  pub unknown : sums.unknown ≡ count_of words Unknown
