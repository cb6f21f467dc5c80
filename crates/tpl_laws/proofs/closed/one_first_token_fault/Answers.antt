use Rattle.tpl_laws.proofs.TokenFaults.{one_token_fault}
use Rattle.tpl_laws.proofs.closed.one_first_token_fault.Goals as goal

pub returns : goal.returns
returns c = one_token_fault
