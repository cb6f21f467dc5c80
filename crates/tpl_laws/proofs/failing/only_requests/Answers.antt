use Rattle.tpl_laws.proofs.FailingLemmas.{only_requests_lem}
use Rattle.tpl_laws.proofs.failing.only_requests.Goals as goal

pub returns : goal.returns
returns c = only_requests_lem
