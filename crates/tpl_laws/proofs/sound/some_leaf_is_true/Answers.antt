use Rattle.tpl_laws.proofs.PlainSound.{some_leaf_lem}
use Rattle.tpl_laws.proofs.sound.some_leaf_is_true.Goals as goal

pub returns : goal.returns
returns c = some_leaf_lem
