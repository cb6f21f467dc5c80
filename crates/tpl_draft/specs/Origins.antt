-- What the tokens of a graph in memory are seen as.
use Rattle.std.specs.Prelude.{map}
use Rattle.tpl_model.specs.Graph as graph
use Rattle.tpl_draft.specs.Ids.{token_number}
use Rattle.tpl_draft.specs.declared.origin.Origin.{Origin}
use Rattle.tpl_draft.specs.declared.origin.Origin.TheVariants as origin

-- a token in memory, without where it lies
abbrev pub token_of : Origin → graph.Token
token_of origin.Plain = graph.Plain
token_of (origin.Linked sources) = graph.Linked (map token_number sources.items)
