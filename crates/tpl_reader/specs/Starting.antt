-- The inputs with which a document's graph is run.
use Rattle.std.specs.Prelude.{Bool, true, false, List, [], Option, Some, None, nat_eq}
use Rattle.tpl_reader.specs.Begin.{StartValue}
use Rattle.tpl_reader.specs.Document.{DocumentValue}

-- no values, where there is nothing to be given one
abbrev pub no_inputs : Bool → Option (List Bool)
no_inputs true = Some []
no_inputs false = None

-- the values that a start gives; without a start the other ones, if there are any
abbrev pub values_of : Option StartValue → Option (List Bool) → Option (List Bool)
values_of None otherwise = otherwise
values_of (Some start) otherwise = Some start.inputs

-- the values that the start gives; none, where there is no start and the graph has inputs
abbrev pub inputs_of : DocumentValue → Option (List Bool)
inputs_of doc = values_of doc.start (no_inputs (nat_eq doc.graph.graph.inputs 0))
