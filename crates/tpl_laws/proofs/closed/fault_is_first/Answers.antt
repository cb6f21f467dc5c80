use Rattle.tpl_laws.proofs.PlainFaults.{first_fault}
use Rattle.tpl_laws.proofs.closed.fault_is_first.Goals as goal

pub returns : goal.returns
returns c = first_fault c.path_laws.ensures
