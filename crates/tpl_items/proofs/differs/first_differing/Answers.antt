use Rattle.std.proofs.Common.{sym, subst, below_more, arith}
use Rattle.std.specs.Prelude.{slice_index_or, false}
use Rattle.std.proofs.lemmas.Option.{get_or_from_slice_get}
use Rattle.tpl_draft.specs.Named.{all_may_fail}
use Rattle.tpl_items.specs.Items.{SayAt, SomeDiffers}
use Rattle.tpl_items.proofs.differs.first_differing.Goals as goal

pub loop-site-preserved : goal.loop-site-preserved
loop-site-preserved g c =
    let listed = all_may_fail c.args.graph.now.graph in
    below_more (λ s. SayAt g.W.Item.site g.W.Item.may_fail s (slice_index_or listed s false) c.args.items.now) c.loop-site.site c.loop-site.invariant
    (subst (λ b. SayAt g.W.Item.site g.W.Item.may_fail c.loop-site.site b c.args.items.now) (sym (get_or_from_slice_get listed c.loop-site.site c.site_may_fail-fails.result false c.site_may_fail-fails.ensures)) (c.says.ensures.yes c.if-not-says.false))

pub returns-then-not-says : goal.returns-then-not-says
returns-then-not-says g c =
    let listed = all_may_fail c.args.graph.now.graph in
    record {
      some = (omega arith, subst (λ b. SomeDiffers g.W.Item.site g.W.Item.may_fail c.loop-site.site b c.args.items.now) (sym (get_or_from_slice_get listed c.loop-site.site c.site_may_fail-fails.result false c.site_may_fail-fails.ensures)) (c.says.ensures.no c.if-not-says.true), c.loop-site.invariant);
      none = tt;
    }

pub returns : goal.returns
returns g c = record { some = tt; none = λ s lt. c.loop-site.invariant s (omega arith) }
