use Rattle.tpl_laws.proofs.RunsDecided.{complete_lem}
use Rattle.tpl_laws.proofs.decided.is_complete_is_right.Goals as goal

pub returns : goal.returns
returns c = complete_lem
