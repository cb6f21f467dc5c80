use Rattle.tpl_laws.proofs.FailingLemmas.{request_is_noted_lem}
use Rattle.tpl_laws.proofs.failing.request_is_noted.Goals as goal

pub returns : goal.returns
returns c = request_is_noted_lem
