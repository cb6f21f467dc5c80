use Rattle.tpl_laws.proofs.PlainSound.{soundness_lem}
use Rattle.tpl_laws.proofs.sound.soundness.Goals as goal

pub returns : goal.returns
returns c = soundness_lem
