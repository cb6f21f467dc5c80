use Rattle.tpl_laws.proofs.PlainFaults.{verdict_lem}
use Rattle.tpl_laws.proofs.closed.verdict_is_sound.Goals as goal

pub returns : goal.returns
returns c g claims trees valid e v h run = c.soundness.ensures g claims trees valid ((verdict_lem c.path_laws.ensures g claims trees valid).0 e) v h run
