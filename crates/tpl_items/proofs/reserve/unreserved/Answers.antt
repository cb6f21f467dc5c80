use Rattle.std.proofs.Common.{vec_capacity}
use Rattle.tpl_items.proofs.Kept.{still_has_room}
use Rattle.tpl_items.proofs.reserve.unreserved.Goals as goal

pub returns-clause-empty : goal.returns-clause-empty
returns-clause-empty g c = (still_has_room (λ v. v.items) (λ v. vec_capacity v) c.args.reserve.shared.key _ _ c.take-list.result c.close-closed.ensures.values.2 c.take-list.ensures.value).0

pub returns-clause-room : goal.returns-clause-room
returns-clause-room g c = (still_has_room (λ v. v.items) (λ v. vec_capacity v) c.args.reserve.shared.key _ _ c.take-list.result c.close-closed.ensures.values.2 c.take-list.ensures.value).1
