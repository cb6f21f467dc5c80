use Rattle.tpl_laws.proofs.PlainFaults.{one_fault}
use Rattle.tpl_laws.proofs.closed.one_first_fault.Goals as goal

pub returns : goal.returns
returns c = one_fault
