use Rattle.tpl_laws.proofs.TokenFaults.{token_leaf_lem}
use Rattle.tpl_laws.proofs.closed.token_leaf_is_right.Goals as goal

pub returns : goal.returns
returns c = token_leaf_lem c.path_laws.ensures
