use Rattle.std.proofs.Common.{◌≤◌, ◌<◌, ◌∙◌, length, arith, sym}
use Rattle.tpl_items.proofs.CountLemmas.{from_other, from_less, found_more, lower_or_same, from_end}
use Rattle.tpl_items.proofs.strange.first_strange.Goals as goal

pub loop-item-preserved : goal.loop-item-preserved
loop-item-preserved g c =
    let site = g.W.Item.site in
    let xs = c.args.items.now in
    let i = c.loop-item.item-index in
    let x = c.item-item.result in
    let lt : i < length xs = c.loop-item-test.true in
    let was = c.loop-item.invariant in
    let now = c.lower-least.result in
    let low = c.lower-least.ensures.not_above in
    let same = c.site.ensures in
    record {
      most = omega (arith, was.most, low.0);
      quiet = λ r le below.
          sym (from_other site xs i x r lt c.item-item.is (λ e. absurd (omega (arith, e, same, le, below, low.1 (omega (arith, e, same, le)))))) ∙ was.quiet r le (omega (arith, below, low.0));
      fewer = λ r. omega (arith, was.fewer r, from_less site xs i x r lt c.item-item.is);
      found = found_more site xs i x c.args.sites c.loop-item.least now lt c.item-item.is was.found was.fewer
          (λ below. let both = c.lower-least.ensures.of_both below in (omega (arith, both.0, same), omega (arith, both.1, same)))
          (lower_or_same now c.loop-item.least low.0);
    }

pub returns-then-least-lt-NO_SITE-clause-some : goal.returns-then-least-lt-NO_SITE-clause-some
returns-then-least-lt-NO_SITE-clause-some g c =
    let was = c.loop-item.invariant in
    let found = was.found c.if-least-lt-NO_SITE.true in
    let over : length c.args.items.now ≤ c.loop-item.item-index = omega (arith, c.loop-item-test.false) in (
      found.0,
      found.1,
      λ r le lt. sym (was.quiet r le lt) ∙ from_end g.W.Item.site c.args.items.now c.loop-item.item-index r over,
    )

pub returns-else-least-lt-NO_SITE-clause-none : goal.returns-else-least-lt-NO_SITE-clause-none
returns-else-least-lt-NO_SITE-clause-none g c =
    let was = c.loop-item.invariant in
    let over : length c.args.items.now ≤ c.loop-item.item-index = omega (arith, c.loop-item-test.false) in
    record { known = λ r le lt. sym (was.quiet r le (omega (arith, lt, c.if-least-lt-NO_SITE.false))) ∙ from_end g.W.Item.site c.args.items.now c.loop-item.item-index r over }
