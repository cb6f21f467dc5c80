use Rattle.tpl_paths.proofs.TokenBits.{set_more}
use Rattle.tpl_paths.proofs.token_set.TokenSet.insert.Goals as goal

pub returns : goal.returns
returns c k = set_more c.args.self.now.bits c.args.token.0 k c.requires
