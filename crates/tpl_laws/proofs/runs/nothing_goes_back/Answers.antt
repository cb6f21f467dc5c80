use Rattle.tpl_laws.proofs.Prefixes.{nothing_goes_back_lem}
use Rattle.tpl_laws.proofs.runs.nothing_goes_back.Goals as goal

pub returns : goal.returns
returns c = nothing_goes_back_lem
