use Rattle.tpl_laws.proofs.TokenSound.{token_rows_lem}
use Rattle.tpl_laws.proofs.sound.token_rows_are_true.Goals as goal

pub returns : goal.returns
returns c = token_rows_lem
