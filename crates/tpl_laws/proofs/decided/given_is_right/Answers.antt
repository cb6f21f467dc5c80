use Rattle.tpl_laws.proofs.RunsDecided.{given_lem}
use Rattle.tpl_laws.proofs.decided.given_is_right.Goals as goal

pub returns : goal.returns
returns c = given_lem
