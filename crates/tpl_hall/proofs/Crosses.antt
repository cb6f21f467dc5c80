-- A hall may be sent to a thread with its run, where its stamps may be.
use denote.Param.Send.{IsSend, sendable}
use denote.Ref.{NamedLft}
use denote.RattleType.{RattleType}
use Rattle.std.proofs.Crossing.{crosses}
use Rattle.std.proofs.MapsCrossing.{crosses as text_crosses}
use Rattle.tpl_model.proofs.Crosses.{event_send}
use Rattle.tpl_items.proofs.Crosses.{receipt_send}
use Rattle.tpl_fast.proofs.Crosses.{fast_send}
use Rattle.tpl_hall.specs.contracts.hall.Hall as Hall

pub hall_send : (κ : NamedLft) (K : RattleType) → IsSend K → IsSend (Hall.the_field κ K).row
hall_send κ K k = let a = fast_send κ in let b = receipt_send K k in let c = event_send in search (sendable, crosses, text_crosses) depth 60 fits 30000
