use Rattle.std.proofs.Common.{ap, ◌∙◌}
use Rattle.tpl_laws.specs.RowTests.{runs_by}
use Rattle.tpl_model.specs.Certificate.{plain}
use Rattle.tpl_checker.proofs.begins.runs.Goals as goal

pub returns-in-Then : goal.returns-in-Then
returns-in-Then c l b = c.runs_after.ensures l ∙ ap (λ k. runs_by c.args.graph.now.graph l (plain c.args.rows.now) c.args.task.0 k) c.in-Then.ensures.kind
