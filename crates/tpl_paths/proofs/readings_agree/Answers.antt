use Rattle.tpl_paths.proofs.Agreements.{agreeing}
use Rattle.tpl_paths.proofs.readings_agree.Goals as goal

pub returns : goal.returns
returns c = agreeing
