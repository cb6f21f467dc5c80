use Rattle.tpl_model.proofs.Through.{must_lem}
use Rattle.tpl_model.proofs.must_observe_is_right.Goals as goal

pub returns : goal.returns
returns c = must_lem
