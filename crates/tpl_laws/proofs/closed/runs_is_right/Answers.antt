use Rattle.tpl_laws.proofs.RulesDecided.{runs_lem}
use Rattle.tpl_laws.proofs.closed.runs_is_right.Goals as goal

pub returns : goal.returns
returns c g l rows t valid = let d = runs_lem c.path_laws.ensures g l rows t valid in (d.0, d.1)
