-- What a command leaves behind.
use Rattle.std.specs.Prelude.{◌≡◌, ◌⊎◌, ◌<◌, ◌≤◌, ℕ, List, length, codes, true, Option, IfSome}
use Rattle.tpl_journal.specs.declared.counting.Counting.{Counting}
use Rattle.tpl_journal.specs.Counting.{failures_of, counted, remaining_of}
use Rattle.tpl_journal.specs.Writing.{Writes, StopsIn}
use Rattle.tpl_reader.specs.Document.{longest}
use Rattle.tpl_commands.specs.declared.exit.Exit.{Exit}
use Rattle.tpl_commands.specs.declared.exit.Exit.TheVariants.{Success, Failure, Usage, Unreadable, Memory, Device, Fault}

-- what may be said of a document: the exits and texts for its bytes
abbrev pub Answers : Type 1
Answers = List ℕ → Exit → List ℕ → Type 0

-- there is no answer to any document
abbrev pub NoAnswer : Answers
NoAnswer input exit text = ⊥

-- The exit and the text for a document of these bytes: the command's own answer, or that there
-- are too many of them, or that memory was refused.
abbrev pub Says : Answers → List ℕ → Exit → List ℕ → Type 0
Says answers input Success text = (length input ≤ longest) × answers input Success text
Says answers input Failure text = (length input ≤ longest) × answers input Failure text
Says answers input Usage text = ⊥
Says answers input Unreadable text =
    ((length input ≤ longest) × answers input Unreadable text)
    ⊎ ((longest < length input) × (text ≡ codes "unreadable: too long\n"))
Says answers input Memory text = text ≡ codes "out of memory\n"
Says answers input Device text = ⊥
Says answers input Fault text = ⊥

-- no read failed, and what the reader had is this input, where that is known
pub record Reads {R : Type 0} (remaining : R → Option (List ℕ)) (old new : Counting R) (input : List ℕ) : Type 0 where
  pub known : IfSome (remaining_of remaining old) (λ bytes. input ≡ bytes)
  pub failures : failures_of new ≡ failures_of old

-- the text was written and this is the exit, or a write failed
abbrev pub Puts : {W : Type 0} → (W → Option (List ℕ)) → Counting W → Counting W → Exit → List ℕ → Exit → Type 0
Puts contents old new exit text result =
    ((result ≡ exit) × Writes contents old new text)
    ⊎ ((result ≡ Device) × StopsIn contents old new text)

-- a read failed, and nothing was written
pub record FailsToRead {R W : Type 0} (from_old from_new : Counting R) (old new : Counting W) : Type 0 where
  pub failed : failures_of from_new ≡ counted true (failures_of from_old)
  pub nothing : new ≡ old

-- What was read is answered, by a text that was written whole or up to a failed write; or a read
-- failed and nothing was written.
abbrev pub Responds : Answers → {R W : Type 0} → (R → Option (List ℕ)) → Counting R → Counting R → (W → Option (List ℕ)) → Counting W → Counting W → Exit → Type 0
Responds answers remaining from_old from_new contents old new result =
    ((input : List ℕ) × (exit : Exit) × (text : List ℕ)
    × Reads remaining from_old from_new input
    × Says answers input exit text
    × Puts contents old new exit text result)
    ⊎ ((result ≡ Device) × FailsToRead from_old from_new old new)
