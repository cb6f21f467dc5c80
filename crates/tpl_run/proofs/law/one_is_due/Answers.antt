use Rattle.tpl_run.proofs.OneDue.{one_due}
use Rattle.tpl_run.proofs.law.one_is_due.Goals as goal

pub returns : goal.returns
returns c = one_due
