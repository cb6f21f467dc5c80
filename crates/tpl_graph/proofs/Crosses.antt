-- A graph may be shared by threads.
use denote.Param.Send.{IsSync, sendable}
use Rattle.std.proofs.Crossing.{crosses}
use Rattle.std.proofs.MapsCrossing.{crosses as text_crosses}
use Rattle.tpl_model.proofs.Crosses.{script_sync}
use Rattle.tpl_graph.specs.contracts.graph.Graph as Graph
use Rattle.tpl_draft.specs.contracts.names.Tables as Tables
use Rattle.tpl_graph.specs.contracts.row.Row as Row

tables_sync : IsSync Tables.the_field.row
tables_sync = search (sendable, crosses, text_crosses) depth 60 fits 30000

row_sync : IsSync Row.the_field.row
row_sync = let a = script_sync in search (sendable, crosses, text_crosses) depth 60 fits 30000

pub graph_sync : IsSync Graph.the_field.row
graph_sync = let a = tables_sync in let b = row_sync in search (sendable, crosses, text_crosses) depth 60
