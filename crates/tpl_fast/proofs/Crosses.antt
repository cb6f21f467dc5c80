-- An indexed machine may be sent to a thread, with the graph that it borrows.
use denote.Param.Send.{IsSend, sendable}
use denote.Ref.{NamedLft}
use Rattle.std.proofs.Crossing.{crosses}
use Rattle.std.proofs.MapsCrossing.{crosses as text_crosses}
use Rattle.tpl_graph.proofs.Crosses.{graph_sync}
use Rattle.tpl_machine.proofs.Crosses.{machine_send}
use Rattle.tpl_fast.specs.contracts.state.State as State
use Rattle.tpl_fast.specs.contracts.fast.Fast as Fast

state_send : (κ : NamedLft) → IsSend (State.the_field κ).row
state_send κ = let a = graph_sync in let b = machine_send κ in search (sendable, crosses, text_crosses) depth 60

pub fast_send : (κ : NamedLft) → IsSend (Fast.the_field κ).row
fast_send κ = let a = state_send κ in search (sendable, crosses, text_crosses) depth 60
