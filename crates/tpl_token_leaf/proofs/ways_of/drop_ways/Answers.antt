use Rattle.std.proofs.Common.{map, subst}
use Rattle.tpl_draft.specs.Ids.{task_number}
use Rattle.tpl_model.specs.Graph.{TaskKind, WhenAll, WhenAny}
use Rattle.tpl_token_leaf.specs.LeafRules.{holds_as, AreDrops}
use Rattle.tpl_token_leaf.proofs.ways_of.drop_ways.Goals as goal

pub returns-in-Root : goal.returns-in-Root
returns-in-Root c = subst (λ (k : TaskKind). AreDrops c.args.leaf.now c.args.task.0 k c.root_drops.result) c.in-Root.ensures.kind c.root_drops.ensures

pub returns-in-Child : goal.returns-in-Child
returns-in-Child c = subst (λ (k : TaskKind). AreDrops c.args.leaf.now c.args.task.0 k c.child_drops.result) c.in-Child.ensures.kind c.child_drops.ensures

pub returns-in-Then : goal.returns-in-Then
returns-in-Then c = subst (λ (k : TaskKind). AreDrops c.args.leaf.now c.args.task.0 k c.continuation_drops.result) c.in-Then.ensures.kind c.continuation_drops.ensures

pub returns-in-All : goal.returns-in-All
returns-in-All c =
    subst (λ (k : TaskKind). AreDrops c.args.leaf.now c.args.task.0 k c.none.result) c.in-All.ensures.kind (c.none.ensures (holds_as c.args.leaf.now c.args.task.0 (WhenAll (map task_number c.in-All.field-0.now))))

pub returns-in-Any : goal.returns-in-Any
returns-in-Any c =
    subst (λ (k : TaskKind). AreDrops c.args.leaf.now c.args.task.0 k c.none-in-Any.result) c.in-Any.ensures.kind (c.none-in-Any.ensures (holds_as c.args.leaf.now c.args.task.0 (WhenAny (map task_number c.in-Any.field-0.now))))
