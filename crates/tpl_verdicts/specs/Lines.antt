-- The lines that are written for verdicts.
use Rattle.std.specs.Prelude.{◌≡◌, ℕ, suc, Bool, Option, Some, None, List, [], ◌∷◌, ◌++◌, codes, decimal, flat_map, length, map, string_bytes}
use Rattle.tpl_draft.specs.Named.{Names}
use Rattle.tpl_journal.specs.Lines.{line, task_name}
use Rattle.tpl_causes.specs.Causes.{AreCauses, cause_lines}
use Rattle.tpl_causes.specs.declared.cause.Cause.{Cause}
use Rattle.tpl_refute.specs.declared.counterexample.Counterexample.{Counterexample}
use Rattle.tpl_verify.specs.declared.verdict.Empty as reasons
use Rattle.tpl_verify.specs.declared.verdict.Empty.TheVariants.{NeverBegins, NamesAllEnds, NamesGivenEnds, NeverThrows, NeverEndsSo, NeverEnds, NeverKept}
use Rattle.tpl_verify.specs.declared.verdict.Verdict.{Verdict}
use Rattle.tpl_verify.specs.declared.verdict.Verdict.TheVariants as verdict
use Rattle.tpl_verdicts.specs.declared.entry.Entry.{Entry}
use Rattle.tpl_verdicts.specs.declared.word.Word.{Word}
use Rattle.tpl_verdicts.specs.declared.word.Word.TheVariants.{Holds, Fails, Empty, Unknown}
use Rattle.tpl_reasons.specs.Spelling.{said_name}
use Rattle.tpl_reasons.specs.Words.{claim_words, input_words}
use Rattle.tpl_verdicts.specs.Told.{Told}
use Rattle.tpl_verdicts.specs.Words.{count_of, word_of, word_text}

-- the second things are so of the first, one for each, in their order; the first of them has this number
abbrev pub AreNumbered : {A B : Type 0} → (ℕ → A → B → Type 0) → ℕ → List A → List B → Type 0
AreNumbered R number [] [] = Unit {0}
AreNumbered R number [] (y ∷ ys) = ⊥
AreNumbered R number (x ∷ xs) [] = ⊥
AreNumbered R number (x ∷ xs) (y ∷ ys) = R number x y × AreNumbered R (suc number) xs ys

-- the line that tells why a claim is empty
abbrev pub why_line : Names → reasons.Empty → List ℕ
why_line names (NeverBegins t) = task_name names t ++ codes " never begins\n"
why_line names NamesAllEnds = codes "it names each way to end\n"
why_line names NamesGivenEnds = codes "it names each way to end that is given\n"
why_line names NeverThrows = codes "there is never an exception to observe\n"
why_line names (NeverEndsSo t) = task_name names t ++ codes " never ends in a way that is given\n"
why_line names (NeverEnds t) = task_name names t ++ codes " never ends\n"
why_line names NeverKept = codes "no complete run keeps what is given\n"

-- the line behind the events of a run in which the claim of this number fails
abbrev pub fails_here : ℕ → List ℕ
fails_here number = codes "claim " ++ (decimal number ++ codes " fails here\n")

-- the line for the values of a run's inputs, if there are any
abbrev pub inputs_lines : Names → List Bool → List (List ℕ)
inputs_lines names [] = []
inputs_lines names (value ∷ values) = (codes "where " ++ (input_words names (value ∷ values) ++ codes "\n")) ∷ []

-- the lines of a run: its inputs, its events, and that the claim of this number fails behind the last of them
abbrev pub run_lines : Names → ℕ → Counterexample → List (List ℕ)
run_lines names number run = inputs_lines names run.inputs ++ map (line names) run.events.items ++ fails_here number ∷ []

-- the new lines are the old ones, and then those that tell of causes in the run, each of which is an event of it, in its order
abbrev pub AddsCauses : Counterexample → (old new : List (List ℕ)) → Type 0
AddsCauses run old new =
    (causes : List Cause) × AreCauses (length run.events.items) causes × (new ≡ old ++ cause_lines (codes "event") causes)

-- the lines that belong to a claim: of one that holds none; of one that is empty why it is; of one that fails the run, and how it
-- came to where the claim fails
abbrev pub AreLines : Names → ℕ → Verdict → List (List ℕ) → Type 0
AreLines names number (verdict.Holds certificate splits None) lines = lines ≡ []
AreLines names number (verdict.Holds certificate splits (Some why)) lines = lines ≡ why_line names why ∷ []
AreLines names number (verdict.Fails run) lines = AddsCauses run (run_lines names number run) lines
AreLines names number (verdict.Unknown tried) lines = Unit {0}

-- the name of a claim in quotes, as a terminal shows it, behind a space
abbrev pub title : Option (List ℕ) → List ℕ
title None = []
title (Some name) = codes " \"" ++ (said_name name ++ codes "\"")

-- what is said of the claim of this number is what its verdict says
pub record IsEntry (names : Names) (number : ℕ) (told : Told) (entry : Entry) : Type 0 where
  pub number_is : entry.number ≡ number
  pub title_is : string_bytes entry.title ≡ title told.name
  pub word_is : entry.word ≡ word_of told.verdict
  pub words_are : string_bytes entry.words ≡ claim_words names told.claim
  pub lines_are : AreLines names number told.verdict (map string_bytes entry.lines.items)

-- a line that belongs to a claim's line
abbrev pub indented : List ℕ → List ℕ
indented text = codes "  " ++ text

-- the line for a claim: its number, its name if it has one, the word for the verdict, and the claim in words; then the lines that belong to it
abbrev pub entry_text : Entry → List ℕ
entry_text entry =
    codes "claim " ++ (decimal entry.number ++ (string_bytes entry.title ++ (codes " " ++ (word_text entry.word ++ (codes ": " ++ (string_bytes entry.words ++ (codes "\n" ++ flat_map (λ line. indented (string_bytes line)) entry.lines.items)))))))

-- the last line: how many claims there are, and how many of each word
abbrev pub sums_line : List Word → List ℕ
sums_line words =
    codes "claims " ++ (decimal (length words) ++ (codes ", holds " ++ (decimal (count_of words Holds) ++ (codes ", fails " ++ (decimal (count_of words Fails) ++ (codes ", empty " ++ (decimal (count_of words Empty) ++ (codes ", unknown " ++ (decimal (count_of words Unknown) ++ codes "\n")))))))))

-- the text says of each claim what its verdict says, in their order, and then how many of each word there are
abbrev pub IsText : Names → List Told → List Verdict → List ℕ → Type 0
IsText names claims verdicts text =
    (entries : List Entry) × AreNumbered (IsEntry names) 1 claims entries
    × (text ≡ flat_map entry_text entries ++ sums_line (map word_of verdicts))
