use Rattle.tpl_laws.proofs.TokenSound.{some_token_leaf_lem}
use Rattle.tpl_laws.proofs.sound.some_token_leaf_is_true.Goals as goal

pub returns : goal.returns
returns c = some_token_leaf_lem
