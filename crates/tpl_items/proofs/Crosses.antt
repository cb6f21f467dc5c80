-- A queue may be shared by threads, where its items may be sent to them. A receipt may be sent to a thread, where its stamp
-- may be, and a stock, where its items may be; so may the children of each task.
use denote.Param.Send.{IsSend, IsSync, Frees, part_keyless, sendable}
use denote.RattleType.{RattleType}
use denote.Struct.Struct.{Struct}
use denote.Struct.Owning.{shape}
use Rattle.std.proofs.Crossing.{crosses}
use Rattle.std.proofs.MapsCrossing.{crosses as text_crosses}
use Rattle.core.specs.declared.alloc.Allocator.{Ghosts as AllocGhosts}
use Rattle.atomic_table.specs.declared.shared.TableRule.{Ghosts as TableGhosts}
use Rattle.atomic_table.specs.contracts.shared.Shared as Shared_table
use Rattle.atomic_table.specs.contracts.badge.Badge as Badge
use Rattle.atomic_table.proofs.Sent.{badge_keyless, shares_keyless}
use Rattle.atomic_table.proofs.Rights.{right_send}
use Rattle.atomic_table.specs.contracts.send_lease.SendLease as Lease
use Rattle.tpl_items.specs.contracts.children.Children as Children
use Rattle.tpl_items.specs.contracts.queue.JobQueue as JobQueue
use Rattle.tpl_items.specs.contracts.receipt.Receipt as Receipt
use Rattle.tpl_items.specs.contracts.stock.Stock as Stock

-- a table, as its own crate has it
table_sync : (S V K P : RattleType) (g : TableGhosts P.Denot S.Denot V.Denot K.Denot) → IsSend S → IsSync (Shared_table.the_row S V K P g)
table_sync S V K P g s = let fields : IsSync (Struct (shape (Shared_table.the_type S V K P g))) = search sendable depth 20 in
    record { shared = λ d b o ν. (fields.shared (d.words, (d.slots, (tt, tt))) b o ν, shares_keyless S s V.coded.code d.table_id (g.holds d.key) d.words d.slots ν) }

lease_send : (T A : RattleType) (g : AllocGhosts A.Denot) → Frees g g.dealloc_token → IsSend (Lease.the_row T A g)
lease_send T A g f = right_send T A g f

lease_sync : (T A : RattleType) (g : AllocGhosts A.Denot) → Frees g g.dealloc_token → IsSync (Lease.the_row T A g)
lease_sync T A g f = record { shared = λ d b o ν q. part_keyless (Lease.the_row T A g) (right_send T A g f) q d b o }

-- a witness, as its own crate has it
badge_send : (V : RattleType) → IsSend (Badge.the_row V)
badge_send V = record { owned = λ d vs. ((λ vss. (tt, ((λ uss. (tt, tt)), tt))), badge_keyless V.coded.code d.table_id d.id d.views); leaving = λ k f vs. tt }

pub queue_sync : (W : RattleType) → IsSend W → IsSync (JobQueue.the_row W)
queue_sync W s = search (sendable, crosses, badge_send, table_sync, lease_sync, lease_send) depth 60 fits 30000

pub receipt_send : (K : RattleType) → IsSend K → IsSend (Receipt.the_field K).row
receipt_send K k = search (sendable, crosses) depth 60

pub stock_send : (W : RattleType) → IsSend W → IsSend (Stock.the_field W).row
stock_send W w = search (sendable, crosses, text_crosses) depth 60

pub children_send : IsSend Children.the_field.row
children_send = search (sendable, crosses, text_crosses) depth 60
