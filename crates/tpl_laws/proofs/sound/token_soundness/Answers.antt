use Rattle.tpl_laws.proofs.TokenSound.{token_soundness_lem}
use Rattle.tpl_laws.proofs.sound.token_soundness.Goals as goal

pub returns : goal.returns
returns c = token_soundness_lem
