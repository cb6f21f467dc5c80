use Rattle.std.proofs.Common.{map, ap}
use mathlib.Core.Option.{some}
use Rattle.tpl_items.proofs.reserve.reserved.Goals as goal

pub new-requires : goal.new-requires
new-requires g c = (c.in_ok-list.list, ap (map some) c.in_ok-lists.ensures.items, c.in_ok-list.ensures.items, search c.in_ok-list.ensures)
