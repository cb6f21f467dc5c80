use Rattle.std.proofs.Common.{◌^◌, ◌<◌, rules}
use Rattle.tpl_paths.proofs.TokenBits.{none_above}
use Rattle.tpl_paths.proofs.token_set.TokenSet.limit_law.Goals as goal

pub returns : goal.returns
returns c k le = let fits : c.args.self.bits < 2 ^ 32 = search rules in none_above c.args.self.bits k fits le
