use Rattle.tpl_model.specs.Graph.{kind}
use Rattle.tpl_verify.proofs.VerdictLemmas.{ends_always}
use Rattle.tpl_verify.proofs.empty.has_to_end.Goals as goal

pub returns-in-Root : goal.returns-in-Root
returns-in-Root c so = ends_always (kind c.args.graph.now.graph c.args.task.0) (λ e. cc)

pub returns-in-Then : goal.returns-in-Then
returns-in-Then c so = ends_always (kind c.args.graph.now.graph c.args.task.0) (λ e. cc)

pub returns-in-All : goal.returns-in-All
returns-in-All c so = ends_always (kind c.args.graph.now.graph c.args.task.0) (λ e. cc)

pub returns-in-Any : goal.returns-in-Any
returns-in-Any c so = ends_always (kind c.args.graph.now.graph c.args.task.0) (λ e. cc)
