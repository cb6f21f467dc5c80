use Rattle.tpl_draw.proofs.EndingLemmas.{endings_lem}
use Rattle.tpl_draw.proofs.ending.endings_are_true.Goals as goal

pub returns : goal.returns
returns c = endings_lem c.some_leaf_is_true.ensures c.some_token_leaf_is_true.ensures
