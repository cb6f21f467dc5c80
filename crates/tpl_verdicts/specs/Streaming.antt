-- What `verify` leaves behind.
use Rattle.std.specs.Prelude.{◌≡◌, ◌⊎◌, ◌≤◌, ◌++◌, ℕ, List, codes, length, Option}
use Rattle.tpl_journal.specs.declared.counting.Counting.{Counting}
use Rattle.tpl_reader.specs.Document.{DocumentValue, Spells, longest}
use Rattle.tpl_commands.specs.declared.exit.Exit.{Exit}
use Rattle.tpl_commands.specs.declared.exit.Exit.TheVariants.{Device, Memory}
use Rattle.tpl_commands.specs.Rules.{rules_of}
use Rattle.tpl_commands.specs.Responding.{Puts, Reads, Responds, Says}
use Rattle.tpl_series.specs.declared.stop.Stop.{Stop}
use Rattle.tpl_series.specs.declared.stop.Stop.TheVariants as stop
use Rattle.tpl_verify.specs.declared.verdict.Verdict.{Verdict}
use Rattle.tpl_verdicts.specs.declared.style.Style.{Style}
use Rattle.tpl_verdicts.specs.declared.style.Style.TheVariants.{Text}
use Rattle.tpl_verdicts.specs.Answer.{IsExit, IsVerified, Verifies}
use Rattle.tpl_verdicts.specs.Asked.{AreFirst}
use Rattle.tpl_verdicts.specs.Lines.{sums_line}
use Rattle.tpl_verdicts.specs.declared.word.Word.{Word}

-- What the verdicts on the first claims of the document are was written as text, and then that memory was refused; or a write
-- of this failed.
pub record BreaksOff {W : Type 0} (contents : W → Option (List ℕ)) (old new : Counting W) (depth runs : ℕ) (doc : DocumentValue) (result : Exit) : Type 0 where
  pub verdicts : List Verdict
  pub lines : List ℕ
  pub first : AreFirst (rules_of doc) depth runs doc.graph doc.claims doc.names verdicts lines
  pub puts : Puts contents old new Memory (lines ++ codes "out of memory\n") result

-- an answer to the document was written as text, or it broke off
abbrev pub IsStreamed : {W : Type 0} → (W → Option (List ℕ)) → Counting W → Counting W → (depth runs : ℕ) → (bytes : List ℕ) → DocumentValue → Exit → Type 0
IsStreamed contents old new depth runs bytes doc result =
    ((exit : Exit) × (text : List ℕ) × IsVerified depth runs Text bytes doc exit text × Puts contents old new exit text result)
    ⊎ BreaksOff contents old new depth runs doc result

-- how many verdicts there are of each word was written, and the program ends by them; or that memory was refused
abbrev pub PutsSums : {W : Type 0} → (W → Option (List ℕ)) → Counting W → Counting W → List Word → Exit → Type 0
PutsSums contents old new words result =
    ((exit : Exit) × IsExit words exit × Puts contents old new exit (sums_line words) result)
    ⊎ Puts contents old new Memory (codes "out of memory\n") result

-- that memory was refused was written; or a write had failed, and nothing was written
abbrev pub PutsStop : {W : Type 0} → (W → Option (List ℕ)) → Counting W → Counting W → Stop → Exit → Type 0
PutsStop contents old new stop.Memory result = Puts contents old new Memory (codes "out of memory\n") result
PutsStop contents old new stop.Device result = (result ≡ Device) × (new ≡ old)

-- an answer to these bytes was written, or one as text broke off
abbrev pub AnswersBytes : {W : Type 0} → (W → Option (List ℕ)) → Counting W → Counting W → (depth runs : ℕ) → Style → (bytes : List ℕ) → Exit → Type 0
AnswersBytes contents old new depth runs style bytes result =
    ((exit : Exit) × (text : List ℕ) × Says (Verifies depth runs style) bytes exit text × Puts contents old new exit text result)
    ⊎ ((style ≡ Text) × (doc : DocumentValue) × Spells bytes doc × BreaksOff contents old new depth runs doc result)

-- what was read spells a document, and the answer to it broke off
abbrev pub BrokeOff : {R W : Type 0} → (R → Option (List ℕ)) → Counting R → Counting R → (W → Option (List ℕ)) → Counting W → Counting W → (depth runs : ℕ) → Style → Exit → Type 0
BrokeOff remaining from_old from_new contents old new depth runs style result =
    (input : List ℕ) × Reads remaining from_old from_new input × (length input ≤ longest)
    × (style ≡ Text) × (doc : DocumentValue) × Spells input doc × BreaksOff contents old new depth runs doc result

-- What was read is answered, as by each command; or the verdicts on the first claims were written, and then that memory was
-- refused.
abbrev pub Streams : {R W : Type 0} → (R → Option (List ℕ)) → Counting R → Counting R → (W → Option (List ℕ)) → Counting W → Counting W → (depth runs : ℕ) → Style → Exit → Type 0
Streams remaining from_old from_new contents old new depth runs style result =
    Responds (Verifies depth runs style) remaining from_old from_new contents old new result
    ⊎ BrokeOff remaining from_old from_new contents old new depth runs style result
