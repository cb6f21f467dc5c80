use Rattle.std.proofs.Common.{length, subst, false}
use Rattle.std.specs.Prelude.{slice_index_or}
use Rattle.tpl_draft.specs.Named.{all_may_fail}
use Rattle.tpl_items.specs.Items.{AreItems, RefusesItems}
use Rattle.tpl_runtime.proofs.session.Session.open.Goals as goal

pub returns-in-Ok-open-clause-items : goal.returns-in-Ok-open-clause-items
returns-in-Ok-open-clause-items g c =
    subst (λ l. AreItems g.W.Item.site g.W.Item.may_fail (length c.args.graph.now.names.sites) (λ s. slice_index_or (all_may_fail c.args.graph.now.graph) s false) l) c.as_slice.ensures.value c.in_default.ensures.none

pub returns-in-Some-clause-refused : goal.returns-in-Some-clause-refused
returns-in-Some-clause-refused g c =
    subst (λ l. RefusesItems g.W.Item.site g.W.Item.may_fail (length c.args.graph.now.names.sites) (λ s. slice_index_or (all_may_fail c.args.graph.now.graph) s false) l c.in-Some.why) c.as_slice.ensures.value c.in-Some.ensures.some

pub returns-in_default-parts-clause-refused : goal.returns-in_default-parts-clause-refused
returns-in_default-parts-clause-refused g c =
    subst (λ l. AreItems g.W.Item.site g.W.Item.may_fail (length c.args.graph.now.names.sites) (λ s. slice_index_or (all_may_fail c.args.graph.now.graph) s false) l) c.as_slice.ensures.value c.in_default.ensures.none

pub returns-clause-refused : goal.returns-clause-refused
returns-clause-refused g c =
    subst (λ l. AreItems g.W.Item.site g.W.Item.may_fail (length c.args.graph.now.names.sites) (λ s. slice_index_or (all_may_fail c.args.graph.now.graph) s false) l) c.as_slice.ensures.value c.in_default.ensures.none
