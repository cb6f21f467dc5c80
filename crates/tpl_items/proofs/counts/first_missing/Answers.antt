use Rattle.std.proofs.Common.{◌<◌, map, arith, below_more}
use Rattle.std.specs.Prelude.{count_by, nat_eq}
use Rattle.tpl_items.proofs.counts.first_missing.Goals as goal

pub loop-site-preserved : goal.loop-site-preserved
loop-site-preserved g c =
    below_more (λ s. 0 < count_by (nat_eq s) (map g.W.Item.site c.args.items.now)) c.loop-site.site c.loop-site.invariant (omega (arith, c.items_of-count.ensures.count, c.if-count-eq0.false))
