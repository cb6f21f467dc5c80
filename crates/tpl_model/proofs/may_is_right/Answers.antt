use Rattle.tpl_model.proofs.Through.{may_lem}
use Rattle.tpl_model.proofs.may_is_right.Goals as goal

pub returns : goal.returns
returns c = may_lem
