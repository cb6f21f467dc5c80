-- What is kept of a line.
use Rattle.std.specs.Prelude.{◌≡◌, ◌<◌, ◌≤◌, ℕ, List, length}
use Rattle.tpl_reader.specs.Document.{longest}
use Rattle.tpl_each.specs.declared.line.Line.{Line}
use Rattle.tpl_each.specs.declared.line.Line.TheVariants.{Whole, TooLong, Lost}

-- this is what is kept of a line of these bytes
abbrev pub IsKept : List ℕ → Line → Type 0
IsKept input (Whole bytes) = (bytes.items ≡ input) × (length input ≤ longest)
IsKept input TooLong = longest < length input
IsKept input Lost = 0 < length input
