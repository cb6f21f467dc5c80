use Rattle.tpl_laws.proofs.RulesDecided.{before_lem}
use Rattle.tpl_laws.proofs.closed.before_is_right.Goals as goal

pub returns : goal.returns
returns c g rows t valid = let d = before_lem c.path_laws.ensures g rows t valid in (d.0, d.1)
