-- A machine may be sent to a thread, with the graph that it borrows.
use denote.Param.Send.{IsSend, sendable}
use denote.Ref.{NamedLft}
use Rattle.std.proofs.Crossing.{crosses}
use Rattle.std.proofs.MapsCrossing.{crosses as text_crosses}
use Rattle.tpl_graph.proofs.Crosses.{graph_sync}
use Rattle.tpl_run.proofs.Crosses.{row_send}
use Rattle.tpl_machine.specs.contracts.machine.Machine as Machine

pub machine_send : (κ : NamedLft) → IsSend (Machine.the_field κ).row
machine_send κ = let a = graph_sync in let b = row_send κ in search (sendable, crosses, text_crosses) depth 60
