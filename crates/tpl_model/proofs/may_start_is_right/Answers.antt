use Rattle.tpl_model.proofs.Through.{start_lem}
use Rattle.tpl_model.proofs.may_start_is_right.Goals as goal

pub returns : goal.returns
returns c = start_lem
