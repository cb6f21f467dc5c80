-- What was read and written, line by line.
use Rattle.std.specs.Prelude.{◌≡◌, ◌⊎◌, ◌≤◌, ◌^◌, ◌-◌, ℕ, true, List, length, Option, IfSome}
use Rattle.tpl_journal.specs.declared.counting.Counting.{Counting}
use Rattle.tpl_journal.specs.Counting.{calls_of, counted, failures_of, remaining_of}
use Rattle.tpl_commands.specs.declared.exit.Exit.{Exit}
use Rattle.tpl_commands.specs.declared.exit.Exit.TheVariants.{Device, Fault}
use Rattle.tpl_journal.specs.Writing.{StopsIn, Writes}
use Rattle.tpl_commands.specs.Responding.{Answers}
use Rattle.tpl_each.specs.Lines.{AreLines, BeginWith}
use Rattle.tpl_each.specs.Said.{AreSaid, Said, exit_of, numbered}

-- all lines were read and answered
pub record AnswersAll {R W : Type 0} (remaining : R → Option (List ℕ)) (from_old from_new : Counting R) (contents : W → Option (List ℕ)) (old new : Counting W) (lines : List (List ℕ)) (said : List Said) (result : Exit) : Type 0 where
  pub read : IfSome (remaining_of remaining from_old) (AreLines lines)
  pub failures : failures_of from_new ≡ failures_of from_old
  pub writes : Writes contents old new (numbered 1 said)
  pub exit : result ≡ exit_of said

-- a write failed, and nothing was read or written after it
pub record StopsWriting {R W : Type 0} (remaining : R → Option (List ℕ)) (from_old from_new : Counting R) (contents : W → Option (List ℕ)) (old new : Counting W) (lines : List (List ℕ)) (said : List Said) (result : Exit) : Type 0 where
  pub read : IfSome (remaining_of remaining from_old) (λ bytes. BeginWith lines bytes ⊎ AreLines lines bytes)
  pub stops : StopsIn contents old new (numbered 1 said)
  pub exit : result ≡ Device

-- a read failed, the lines before it are answered, and nothing was read after it
pub record StopsReading {R W : Type 0} (remaining : R → Option (List ℕ)) (from_old from_new : Counting R) (contents : W → Option (List ℕ)) (old new : Counting W) (lines : List (List ℕ)) (said : List Said) (result : Exit) : Type 0 where
  pub read : IfSome (remaining_of remaining from_old) (BeginWith lines)
  pub failed : failures_of from_new ≡ counted true (failures_of from_old)
  pub writes : Writes contents old new (numbered 1 said)
  pub exit : result ≡ Device

-- the reader gave more than any has: so many reads were made, or so many lines came
pub record HasNoEnd {R W : Type 0} (remaining : R → Option (List ℕ)) (from_old from_new : Counting R) (contents : W → Option (List ℕ)) (old new : Counting W) (lines : List (List ℕ)) (said : List Said) (result : Exit) : Type 0 where
  pub read : IfSome (remaining_of remaining from_old) (BeginWith lines)
  pub many : (2 ^ 64 - 1 ≤ calls_of from_new) ⊎ (2 ^ 63 - 1 ≤ length lines)
  pub writes : Writes contents old new (numbered 1 said)
  pub exit : result ≡ Fault

-- To each line that is said which the command says to a document of these bytes, and it is written with its number, in
-- order, none left out.
abbrev pub RespondsToEach : Answers → {R W : Type 0} → (R → Option (List ℕ)) → Counting R → Counting R → (W → Option (List ℕ)) → Counting W → Counting W → Exit → Type 0
RespondsToEach answers remaining from_old from_new contents old new result =
    (lines : List (List ℕ)) × (said : List Said) × AreSaid answers lines said
    × (AnswersAll remaining from_old from_new contents old new lines said result
    ⊎ (StopsWriting remaining from_old from_new contents old new lines said result
    ⊎ (StopsReading remaining from_old from_new contents old new lines said result
    ⊎ HasNoEnd remaining from_old from_new contents old new lines said result)))
