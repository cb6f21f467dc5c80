use Rattle.std.proofs.Common.{map}
use Rattle.tpl_draft.specs.Ids.{task_number}
use Rattle.tpl_items.specs.Children.{AreChildrenBelow}
use Rattle.tpl_items.proofs.children.Children.open.Given as goal

abbrev pub invariant-loop-number : goal.invariant-loop-number
invariant-loop-number l = AreChildrenBelow l.graph.graph l.number (map (λ v. map task_number v.items) l.lists.items)
