use Rattle.tpl_laws.proofs.RulesDecided.{ends_lem}
use Rattle.tpl_laws.proofs.closed.ends_is_right.Goals as goal

pub returns : goal.returns
returns c g l rows t = let d = ends_lem c.path_laws.ensures g l rows t in (d.0, d.1)
