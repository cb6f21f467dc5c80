use Rattle.std.proofs.Common.{◌≡◌, map, drop}
use Rattle.std.specs.Prelude.{count_by, nat_eq}
use Rattle.tpl_items.proofs.stock.place_of.Given as goal

abbrev pub invariant-loop-place : goal.invariant-loop-place
invariant-loop-place g l = count_by (nat_eq l.site.0) (map g.W.Item.site (drop l.place l.items.items)) ≡ count_by (nat_eq l.site.0) (map g.W.Item.site l.items.items)
