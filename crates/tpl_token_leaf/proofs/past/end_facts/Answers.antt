use Rattle.std.proofs.Common.{refl, ◌∙◌}
use Rattle.tpl_token_leaf.specs.LeafRules.{ends_as}
use Rattle.tpl_token_leaf.proofs.MatchedKinds.{at_kind, by_ways}
use Rattle.tpl_token_leaf.proofs.past.end_facts.Goals as goal

pub returns-in-Root : goal.returns-in-Root
returns-in-Root c f = c.in_all_ways.ensures f ∙ by_ways c.args.leaf.now c.args.task.0 _ c.in-Root.ensures.kind f refl

pub returns-in-Child : goal.returns-in-Child
returns-in-Child c f = c.in_all_ways-in-Child.ensures f ∙ by_ways c.args.leaf.now c.args.task.0 _ c.in-Child.ensures.kind f refl

pub returns-in-Then : goal.returns-in-Then
returns-in-Then c f = c.in_all_ways-in-Then.ensures f ∙ by_ways c.args.leaf.now c.args.task.0 _ c.in-Then.ensures.kind f refl

pub returns-in-All : goal.returns-in-All
returns-in-All c f = c.after_some.ensures f ∙ at_kind c.args.leaf.now c.args.task.0 _ c.in-All.ensures.kind (λ k. ends_as c.args.leaf.now c.args.task.0 k f)

pub returns-in-Any : goal.returns-in-Any
returns-in-Any c f = c.after_winners.ensures f ∙ at_kind c.args.leaf.now c.args.task.0 _ c.in-Any.ensures.kind (λ k. ends_as c.args.leaf.now c.args.task.0 k f)
