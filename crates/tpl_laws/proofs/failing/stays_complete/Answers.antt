use Rattle.tpl_laws.proofs.FailingLemmas.{stays_complete_lem}
use Rattle.tpl_laws.proofs.failing.stays_complete.Goals as goal

pub returns : goal.returns
returns c = stays_complete_lem
