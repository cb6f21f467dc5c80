-- A row of a task may be sent to a thread, with the body that it borrows.
use denote.Param.Send.{IsSend, sendable}
use denote.Ref.{NamedLft}
use Rattle.std.proofs.Crossing.{crosses}
use Rattle.std.proofs.MapsCrossing.{crosses as text_crosses}
use Rattle.tpl_model.proofs.Crosses.{body_sync, script_sync}
use Rattle.tpl_run.specs.contracts.row.Row as Row

pub row_send : (κ : NamedLft) → IsSend (Row.the_field κ).row
row_send κ = let a = body_sync in let b = script_sync in search (sendable, crosses, text_crosses) depth 60 fits 30000
