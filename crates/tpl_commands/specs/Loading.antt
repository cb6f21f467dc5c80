-- A document that was read.
use Rattle.std.specs.Prelude.{List, ℕ, Option, Some, None}
use Rattle.std.specs.List.{All}
use Rattle.tpl_journal.specs.declared.counting.Counting.{Counting}
use Rattle.tpl_model.specs.Graph.{TaskGraph, is_token}
use Rattle.tpl_reader.specs.Begin.{StartValue}
use Rattle.tpl_reader.specs.Document.{DocumentValue, Spells}
use Rattle.tpl_commands.specs.Responding.{Reads}

-- what was read spells the document
pub record Loads {R : Type 0} (remaining : R → Option (List ℕ)) (old new : Counting R) (doc : DocumentValue) : Type 0 where
  pub input : List ℕ
  pub reads : Reads remaining old new input
  pub spelled : Spells input doc

-- the tokens that a start requests first are the graph's
abbrev pub AreTokens : TaskGraph → Option StartValue → Type 0
AreTokens g None = Unit {0}
AreTokens g (Some start) = All (is_token g) start.request

-- the tokens that are requested first are the graph's
abbrev pub RequestsTokens : DocumentValue → Type 0
RequestsTokens doc = AreTokens doc.graph.graph doc.start
