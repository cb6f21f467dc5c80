use Rattle.tpl_laws.proofs.TokenFaults.{token_first_fault}
use Rattle.tpl_laws.proofs.closed.token_fault_is_first.Goals as goal

pub returns : goal.returns
returns c = token_first_fault c.path_laws.ensures
