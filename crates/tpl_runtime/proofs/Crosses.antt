-- A session may be shared by threads, where its items and stamps may be sent to them.
use denote.Param.Send.{IsSend, IsSync, sendable}
use denote.Ref.{NamedLft}
use denote.RattleType.{RattleType}
use Rattle.std.proofs.Crossing.{crosses}
use Rattle.std.proofs.MapsCrossing.{crosses as text_crosses}
use Rattle.core.proofs.once.Sent.{once_send, once_sync}
use Rattle.std.specs.contracts.sync.Mutex as Mutex
use Rattle.tpl_graph.proofs.Crosses.{graph_sync}
use Rattle.tpl_model.proofs.Crosses.{event_send, event_sync}
use Rattle.tpl_hall.proofs.Crosses.{hall_send}
use Rattle.tpl_items.proofs.Crosses.{stock_send, children_send, queue_sync}
use Rattle.tpl_runtime.specs.contracts.shared.Shared as Shared
use Rattle.tpl_runtime.specs.contracts.session.Session as Session

mutex_sync : (T : RattleType) → IsSend T → IsSync (Mutex.the_row T)
mutex_sync T s = search (sendable, crosses) depth 60

shared_send : (κ : NamedLft) (K W : RattleType) → IsSend K → IsSend W → IsSend (Shared.the_field κ K W).row
shared_send κ K W k w = let a = hall_send κ K k in let b = stock_send W w in let c = children_send in search (sendable, crosses, text_crosses) depth 60

pub session_sync : (κ : NamedLft) (K W : RattleType) → IsSend K → IsSend W → IsSync (Session.the_field κ K W).row
session_sync κ K W k w = let a = graph_sync in let b = shared_send κ K W k w in let c = event_sync in let d = event_send in search (sendable, crosses, text_crosses, once_send, once_sync, mutex_sync, queue_sync) depth 60 fits 30000
