use Rattle.tpl_laws.proofs.SettledBefore.{settled_before_its_begin_lem}
use Rattle.tpl_laws.proofs.settled.settled_before_its_begin.Goals as goal

pub returns : goal.returns
returns c = settled_before_its_begin_lem
