use Rattle.tpl_laws.proofs.FailingLemmas.{complete_is_noted_lem}
use Rattle.tpl_laws.proofs.failing.complete_is_noted.Goals as goal

pub returns : goal.returns
returns c = complete_is_noted_lem
