use Rattle.std.proofs.Common.{ap, ◌∙◌}
use Rattle.tpl_model.proofs.Truths.{true_false}
use Rattle.tpl_token_leaf.specs.LeafRules.{begins_as, runs_as}
use Rattle.tpl_token_leaf.proofs.before.begin_facts.Goals as goal

pub start_facts-requires-clause-begins : goal.start_facts-requires-clause-begins
start_facts-requires-clause-begins c = ap (runs_as c.args.leaf.now c.args.task.0) c.in-Child.ensures.kind ∙ c.requires.begins

pub returns-in-Root : goal.returns-in-Root
returns-in-Root c f = c.none.ensures f ∙ ap (λ k. begins_as c.args.leaf.now c.args.task.0 k f) c.in-Root.ensures.kind

pub returns-in-Child : goal.returns-in-Child
returns-in-Child c f = c.start_facts.ensures f ∙ ap (λ k. begins_as c.args.leaf.now c.args.task.0 k f) c.in-Child.ensures.kind

pub returns-in-Then : goal.returns-in-Then
returns-in-Then c f = c.once_ended.ensures f ∙ ap (λ k. begins_as c.args.leaf.now c.args.task.0 k f) c.in-Then.ensures.kind

pub returns-in-All : goal.returns-in-All
returns-in-All c f = true_false (ap (runs_as c.args.leaf.now c.args.task.0) c.in-All.ensures.kind ∙ c.requires.begins)

pub returns-in-Any : goal.returns-in-Any
returns-in-Any c f = true_false (ap (runs_as c.args.leaf.now c.args.task.0) c.in-Any.ensures.kind ∙ c.requires.begins)
