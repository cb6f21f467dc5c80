use Rattle.tpl_run.proofs.DueLemmas.{found_or_none}
use Rattle.tpl_run.proofs.due.is_due.Goals as goal

pub returns : goal.returns
returns g c =
    let j = g.R.Readers.journal c.args.run.now in
    rw c.is_some.ensures (found_or_none j.graph j.inputs j.events c.args.task.0 c.due_of.result c.due_of.ensures.some c.due_of.ensures.none)
