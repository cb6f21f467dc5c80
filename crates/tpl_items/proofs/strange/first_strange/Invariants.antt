use Rattle.std.proofs.Common.{◌≡◌, ◌≤◌, ◌<◌, ℕ, map, drop}
use Rattle.std.specs.Prelude.{count_by, nat_eq}
use Rattle.tpl_items.proofs.strange.first_strange.Given as goal

abbrev pub invariant-loop-item : goal.invariant-loop-item
invariant-loop-item g l =
    record {
      most : l.least ≤ 65536;
      quiet : (r : ℕ) → l.sites ≤ r → r < l.least → count_by (nat_eq r) (map g.W.Item.site (drop l.item-index l.items)) ≡ count_by (nat_eq r) (map g.W.Item.site l.items);
      fewer : (r : ℕ) → count_by (nat_eq r) (map g.W.Item.site (drop l.item-index l.items)) ≤ count_by (nat_eq r) (map g.W.Item.site l.items);
      found : l.least < 65536 → (l.sites ≤ l.least) × (0 < count_by (nat_eq l.least) (map g.W.Item.site l.items));
    }
