use Rattle.tpl_laws.proofs.ClaimsDecided.{proves_lem}
use Rattle.tpl_laws.proofs.closed.proves_is_right.Goals as goal

pub returns : goal.returns
returns c g l rows p = let d = proves_lem c.path_laws.ensures g l rows p in (d.0, d.1)
