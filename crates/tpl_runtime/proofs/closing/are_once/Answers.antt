use Rattle.std.proofs.Common.{◌≡◌, ◌+◌, map, rules, arith, below_more}
use Rattle.std.specs.Prelude.{count_by, nat_eq}
use Rattle.std.proofs.lemmas.List.{length-map}
use Rattle.tpl_runtime.proofs.closing.are_once.Goals as goal

pub loop-site-preserved : goal.loop-site-preserved
loop-site-preserved g c =
    below_more (λ s. count_by (nat_eq s) (map (λ r. r.site.0) c.args.receipts.now) + count_by (nat_eq s) (map g.W.Item.site c.args.items.now) ≡ 1) c.loop-site.site c.loop-site.invariant
    (omega (arith, c.receipts_of-called.ensures.count, c.items_of-left.ensures.count, c.are_one.ensures.0 c.if-not-are_one.false))

pub returns : goal.returns
returns g c = (
  λ _. record {
    once = λ s lt. c.loop-site.invariant s (omega (arith, lt, c.loop-site-test.false));
    many = rw (length-map c.args.receipts.now (λ r. r.site.0), length-map c.args.items.now g.W.Item.site) (c.are_as_many.ensures.0 c.if-not-are_as_many.false);
  },
  λ _. search rules,
)

pub returns-then-not-are_one : goal.returns-then-not-are_one
returns-then-not-are_one g c = (
  λ no. absurd (search rules),
  λ all.
      let one : c.receipts_of-called.result + c.items_of-left.result ≡ 1 = omega (arith, all.once c.loop-site.site c.loop-site-test.true, c.receipts_of-called.ensures.count, c.items_of-left.ensures.count) in
      let is = c.are_one.ensures.1 one in
      search rules,
)
