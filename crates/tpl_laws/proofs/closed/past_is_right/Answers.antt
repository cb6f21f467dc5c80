use Rattle.tpl_laws.proofs.RulesDecided.{past_lem}
use Rattle.tpl_laws.proofs.closed.past_is_right.Goals as goal

pub returns : goal.returns
returns c g l rows t valid = let d = past_lem c.path_laws.ensures g l rows t valid in (d.0, d.1)
