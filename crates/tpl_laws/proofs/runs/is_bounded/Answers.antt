use Rattle.tpl_laws.proofs.Bound.{is_bounded_lem}
use Rattle.tpl_laws.proofs.runs.is_bounded.Goals as goal

pub returns : goal.returns
returns c = is_bounded_lem
