use Rattle.std.proofs.Common.{Some, None}
use Rattle.tpl_model.specs.Graph.{Child}
use Rattle.tpl_token_leaf.specs.LeafRules.{holds_as}
use Rattle.tpl_token_leaf.proofs.Children.{child_drops}
use Rattle.tpl_token_leaf.proofs.ways_of.child_drops.Goals as goal

pub returns-in-None : goal.returns-in-None
returns-in-None c = child_drops c.args.leaf.now c.args.task.0 None c.in-None.ensures.parent c.none.result (c.none.ensures (holds_as c.args.leaf.now c.args.task.0 Child))

pub returns-in-Some : goal.returns-in-Some
returns-in-Some c = child_drops c.args.leaf.now c.args.task.0 (Some c.in-Some.parent.0) c.in-Some.ensures.parent c.started_drops.result c.started_drops.ensures
