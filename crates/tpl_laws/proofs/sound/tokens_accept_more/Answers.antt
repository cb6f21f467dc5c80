use Rattle.tpl_laws.proofs.TokenLaw.{tokens_accept_more_lem}
use Rattle.tpl_laws.proofs.sound.tokens_accept_more.Goals as goal

pub returns : goal.returns
returns c = tokens_accept_more_lem
