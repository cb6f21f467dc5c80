use Rattle.tpl_laws.proofs.Parents.{below}
use Rattle.tpl_laws.proofs.closed.below_is_right.Goals as goal

pub returns : goal.returns
returns c g t x valid = let d = below g t x valid in (d.0, d.1)
