use Rattle.tpl_model.proofs.BitSets.{bit_at_and_is}
use Rattle.tpl_paths.proofs.token_set.TokenSet.intersection.Goals as goal

pub returns : goal.returns
returns c k = bit_at_and_is c.args.self.bits c.args.other.bits k
