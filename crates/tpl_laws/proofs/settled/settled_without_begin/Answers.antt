use Rattle.tpl_laws.proofs.SettledBefore.{settled_without_begin_lem}
use Rattle.tpl_laws.proofs.settled.settled_without_begin.Goals as goal

pub returns : goal.returns
returns c = settled_without_begin_lem
