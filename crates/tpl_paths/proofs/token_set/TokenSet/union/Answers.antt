use Rattle.tpl_model.proofs.BitSets.{bit_at_or_is}
use Rattle.tpl_paths.proofs.token_set.TokenSet.union.Goals as goal

pub returns : goal.returns
returns c k = bit_at_or_is c.args.self.bits c.args.other.bits k
