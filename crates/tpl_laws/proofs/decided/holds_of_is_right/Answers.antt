use Rattle.tpl_laws.proofs.ClaimsDecided.{holds_of_lem}
use Rattle.tpl_laws.proofs.decided.holds_of_is_right.Goals as goal

pub returns : goal.returns
returns c = holds_of_lem
