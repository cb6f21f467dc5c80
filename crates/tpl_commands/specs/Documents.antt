-- What is answered to bytes that are to spell a document.
use Rattle.std.specs.Prelude.{◌≡◌, ◌⊎◌, ℕ, List, Option}
use Rattle.tpl_journal.specs.declared.counting.Counting.{Counting}
use Rattle.tpl_journal.specs.Writing.{Writes}
use Rattle.tpl_reader.specs.Document.{DocumentValue, Spells, IsFault}
use Rattle.tpl_reader.specs.declared.fault.ReadFault.{ReadFault}
use Rattle.tpl_commands.specs.declared.exit.Exit.{Exit}
use Rattle.tpl_commands.specs.declared.exit.Exit.TheVariants.{Unreadable}
use Rattle.tpl_commands.specs.Unreadable.{IsUnreadable}
use Rattle.tpl_commands.specs.Responding.{Answers, Reads}

-- the bytes spell no document, and the text says why
abbrev pub NoDocument : Answers
NoDocument input exit text = (fault : ReadFault) × IsFault input fault × (exit ≡ Unreadable) × IsUnreadable fault text

-- the bytes spell a document to which this is the answer, or they spell none and the text says why
abbrev pub ToDocument : (DocumentValue → Exit → List ℕ → Type 0) → Answers
ToDocument Is input exit text =
    ((doc : DocumentValue) × Spells input doc × Is doc exit text)
    ⊎ NoDocument input exit text

-- What was read spells a document, and a text was written: this is so of both.
pub record Tells {R W : Type 0} (Is : DocumentValue → List ℕ → Type 0) (remaining : R → Option (List ℕ)) (from_old from_new : Counting R) (contents : W → Option (List ℕ)) (to_old to_new : Counting W) : Type 0 where
  pub input : List ℕ
  pub reads : Reads remaining from_old from_new input
  pub doc : DocumentValue
  pub spelled : Spells input doc
  pub text : List ℕ
  pub is : Is doc text
  pub writes : Writes contents to_old to_new text
