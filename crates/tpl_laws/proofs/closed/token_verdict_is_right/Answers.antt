use Rattle.tpl_laws.proofs.TokenFaults.{token_verdict_lem}
use Rattle.tpl_laws.proofs.closed.token_verdict_is_right.Goals as goal

pub returns : goal.returns
returns c = token_verdict_lem c.path_laws.ensures
