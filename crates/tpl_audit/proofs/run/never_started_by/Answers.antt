use Rattle.tpl_model.specs.Facts.{started}
use Rattle.tpl_run.specs.Journal.{named}
use Rattle.tpl_audit.proofs.HoldsLemmas.{no_parent}
use Rattle.tpl_audit.proofs.run.never_started_by.Goals as goal

pub returns-else-started-clause-none : goal.returns-else-started-clause-none
returns-else-started-clause-none g c =
    let j = g.C.Core.journal c.args.core.now in
    no_parent c.parent_of.result (started j.graph j.inputs j.events c.args.task.0) c.graph.result.now (named j) c.args.task.0 c.graph.ensures c.parent_of.ensures.none
