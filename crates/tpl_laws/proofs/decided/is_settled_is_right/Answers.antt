use Rattle.tpl_laws.proofs.RunsDecided.{settled_lem}
use Rattle.tpl_laws.proofs.decided.is_settled_is_right.Goals as goal

pub returns : goal.returns
returns c = settled_lem
