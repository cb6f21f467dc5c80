use Rattle.tpl_laws.proofs.FailureTold.{failure_is_told_lem}
use Rattle.tpl_laws.proofs.failing.failure_is_told.Goals as goal

pub returns : goal.returns
returns c = failure_is_told_lem
