use Rattle.std.proofs.Common.{Some, ap, ◌∙◌}
use Rattle.tpl_model.specs.TokenRules.{may_run}
use Rattle.tpl_laws.specs.RowTests.{implies}
use Rattle.tpl_token_leaf.specs.Leaf.{rows_in}
use Rattle.tpl_token_leaf.proofs.Children.{child_runs}
use Rattle.tpl_token_leaf.proofs.begins.runs_if_started.Goals as goal

pub returns-in-Some : goal.returns-in-Some
returns-in-Some c =
    let t = c.args.task.0 in
    let starts = c.implies.ensures ∙ (ap (implies c.may_start-may_start.result) c.may_run-runs.ensures ∙ c.may_start-may_start.ensures (may_run (rows_in c.args.leaf.now) t)) in
    c.implies-in-Some.ensures ∙ ((λ i. implies (c.may_run.ensures i) (starts i)) ∙ child_runs c.args.leaf.now t (Some c.in-Some.parent.0) c.in-Some.ensures.parent)
