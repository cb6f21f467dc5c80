use Rattle.std.proofs.Common.{ap, ◌∙◌, sym}
use Rattle.tpl_model.specs.Members.{mem}
use Rattle.tpl_model.specs.Graph.{attached}
use Rattle.tpl_draft.specs.Named.{Named}
use Rattle.tpl_run.proofs.GraphLemmas.{attached_within}
use Rattle.tpl_run.proofs.graphs.children.Goals as goal

pub returns-clause-within : goal.returns-clause-within
returns-clause-within g c = λ x m.
    let j = g.R.Readers.journal c.args.run.now in
    attached_within j.graph c.args.task.0 x c.run_law.ensures.graph.graph
    (ap (mem x) (sym (c.attached.ensures ∙ ap (λ (n : Named). attached n.graph c.args.task.0) c.graph.ensures)) ∙ m)
