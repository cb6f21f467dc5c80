use Rattle.tpl_laws.proofs.TokenLaws.{more_is_assumed_lem}
use Rattle.tpl_laws.proofs.sound.more_is_assumed.Goals as goal

pub returns : goal.returns
returns c = more_is_assumed_lem
