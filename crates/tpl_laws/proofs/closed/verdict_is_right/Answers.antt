use Rattle.tpl_laws.proofs.PlainFaults.{verdict_lem}
use Rattle.tpl_laws.proofs.closed.verdict_is_right.Goals as goal

pub returns : goal.returns
returns c = verdict_lem c.path_laws.ensures
