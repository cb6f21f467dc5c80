use Rattle.tpl_laws.proofs.Parents.{below_step}
use Rattle.tpl_laws.proofs.closed.below_in_one_pass.Goals as goal

pub returns : goal.returns
returns c = below_step
