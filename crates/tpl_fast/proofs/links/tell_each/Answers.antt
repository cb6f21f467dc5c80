use Rattle.std.proofs.Common.{◌≡◌, length, true, ◌∙◌, arith}
use Rattle.tpl_fast.specs.Due.{is_told}
use Rattle.tpl_fast.proofs.IndexLemmas.{each_more}
use Rattle.tpl_fast.proofs.links.tell_each.Goals as goal

pub loop-other-preserved : goal.loop-other-preserved
loop-other-preserved c = record {
  count = c.in_ok-tell.ensures.count ∙ c.loop-other.invariant.count;
  told = each_more (length c.args.lists.now.items) (λ x. is_told c.loop-other.lists.items x c.args.task.0 ≡ true) (λ x. is_told c.tell.new.lists.items x c.args.task.0 ≡ true) c.args.others.now c.loop-other.other-index (record { 0 = 0 }) c.loop-other-test.true
      (λ x m. c.in_ok-tell.ensures.kept x c.args.task.0 m)
      (λ lt. c.in_ok-tell.ensures.told (let e = c.loop-other.invariant.count in omega arith))
      c.loop-other.invariant.told;
  kept = λ x t m. c.in_ok-tell.ensures.kept x t (c.loop-other.invariant.kept x t m);
}
