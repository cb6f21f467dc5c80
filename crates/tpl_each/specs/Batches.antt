-- Lines that are answered together, from a reader to a writer.
use Rattle.std.specs.Prelude.{◌≡◌, ◌⊎◌, ℕ, List, length, Option, IfSome}
use Rattle.std.specs.Io.KnownBytes.{Appends}
use Rattle.std.specs.List.{list_all}
use Rattle.tpl_journal.specs.Writing.{AppendsFront}
use Rattle.tpl_commands.specs.Responding.{Answers}
use Rattle.tpl_each.specs.declared.batch.Batch.{Batch}
use Rattle.tpl_each.specs.Gathering.{Came}
use Rattle.tpl_each.specs.Lines.{AreLines, BeginWith}
use Rattle.tpl_each.specs.Said.{AreSaid, Said, is_yes, numbered}

-- the lines that came were answered, and the answers were written, from this number on
pub record IsServed (answers : Answers) (from_old from_new to_old to_new : Option (List ℕ)) (number : ℕ) (batch : Batch) : Type 0 where
  pub lines : List (List ℕ)
  pub said : List Said
  pub answered : AreSaid answers lines said
  pub came : Came from_old from_new lines batch.ends
  pub count : batch.count ≡ length said
  pub yes : batch.all_yes ≡ list_all (λ (it : Said). is_yes it.exit) said
  pub written : Appends to_old to_new (numbered number said)

-- the lines that came were answered, and a front of the answers was written
pub record IsStopped (answers : Answers) (from_old to_old to_new : Option (List ℕ)) (number : ℕ) : Type 0 where
  pub lines : List (List ℕ)
  pub said : List Said
  pub answered : AreSaid answers lines said
  pub came : IfSome from_old (λ bytes. BeginWith lines bytes ⊎ AreLines lines bytes)
  pub written : AppendsFront to_old to_new (numbered number said)
