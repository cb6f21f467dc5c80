use Rattle.tpl_laws.proofs.PlainSound.{sound_lem}
use Rattle.tpl_laws.proofs.sound.sound_by_rules.Goals as goal

pub returns : goal.returns
returns c = sound_lem c.soundness.ensures c.token_soundness.ensures
