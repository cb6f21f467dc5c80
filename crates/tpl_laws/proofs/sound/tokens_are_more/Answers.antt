use Rattle.tpl_laws.proofs.TokenLaw.{tokens_are_more_lem}
use Rattle.tpl_laws.proofs.sound.tokens_are_more.Goals as goal

pub returns : goal.returns
returns c = tokens_are_more_lem
