use Rattle.tpl_laws.proofs.TokenFaults.{token_tree_lem}
use Rattle.tpl_laws.proofs.closed.token_tree_is_right.Goals as goal

pub returns : goal.returns
returns c = token_tree_lem c.path_laws.ensures
