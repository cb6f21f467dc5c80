use Rattle.tpl_laws.proofs.Parents.{parent_is, the_parent}
use Rattle.tpl_laws.proofs.closed.parent_is_right.Goals as goal

pub returns : goal.returns
returns c g p t valid = (parent_is g t p, the_parent g p t valid)
