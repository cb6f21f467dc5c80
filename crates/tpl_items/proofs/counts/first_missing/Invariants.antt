use Rattle.std.proofs.Common.{◌<◌, ℕ, map}
use Rattle.std.specs.Prelude.{count_by, nat_eq}
use Rattle.tpl_items.proofs.counts.first_missing.Given as goal

abbrev pub invariant-loop-site : goal.invariant-loop-site
invariant-loop-site g l = (s : ℕ) → s < l.site → 0 < count_by (nat_eq s) (map g.W.Item.site l.items)
