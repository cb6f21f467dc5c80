use Rattle.std.proofs.Common.{drop}
use Rattle.tpl_items.specs.Items.{SayAt}
use Rattle.tpl_items.proofs.differs.says.Given as goal

abbrev pub invariant-loop-item : goal.invariant-loop-item
invariant-loop-item g l = SayAt g.W.Item.site g.W.Item.may_fail l.site l.may_fail (drop l.item-index l.items) → SayAt g.W.Item.site g.W.Item.may_fail l.site l.may_fail l.items
