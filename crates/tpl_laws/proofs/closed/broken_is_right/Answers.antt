use Rattle.tpl_laws.proofs.FaultsDecided.{broken_lem}
use Rattle.tpl_laws.proofs.closed.broken_is_right.Goals as goal

pub returns : goal.returns
returns c g l rows t valid = let d = broken_lem c.path_laws.ensures g l rows t valid in (d.0, d.1)
