use Rattle.std.proofs.Common.{ap, ◌∙◌}
use Rattle.tpl_token_leaf.specs.LeafRules.{runs_as}
use Rattle.tpl_token_leaf.proofs.begins.runs.Goals as goal

pub returns-in-Then : goal.returns-in-Then
returns-in-Then c = c.runs_after.ensures ∙ ap (runs_as c.args.leaf.now c.args.task.0) c.in-Then.ensures.kind

pub returns-in-Child : goal.returns-in-Child
returns-in-Child c = c.runs_if_started.ensures ∙ ap (runs_as c.args.leaf.now c.args.task.0) c.in-Child.ensures.kind
