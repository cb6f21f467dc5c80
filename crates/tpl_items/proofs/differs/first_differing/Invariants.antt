use Rattle.std.proofs.Common.{◌<◌, ℕ}
use Rattle.std.specs.Prelude.{slice_index_or, false}
use Rattle.tpl_draft.specs.Named.{all_may_fail}
use Rattle.tpl_items.specs.Items.{SayAt}
use Rattle.tpl_items.proofs.differs.first_differing.Given as goal

abbrev pub invariant-loop-site : goal.invariant-loop-site
invariant-loop-site g l = (s : ℕ) → s < l.site → SayAt g.W.Item.site g.W.Item.may_fail s (slice_index_or (all_may_fail l.graph.graph) s false) l.items
