use Rattle.tpl_laws.proofs.TokenFaults.{token_verdict_lem}
use Rattle.tpl_laws.proofs.closed.token_verdict_is_sound.Goals as goal

pub returns : goal.returns
returns c g claims trees valid e v h run = c.token_soundness.ensures g claims trees valid ((token_verdict_lem c.path_laws.ensures g claims trees valid).0 e) v h run
