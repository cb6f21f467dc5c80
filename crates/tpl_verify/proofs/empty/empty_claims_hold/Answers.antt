use Rattle.tpl_verify.proofs.EmptyLemmas.{empty_holds}
use Rattle.tpl_verify.proofs.empty.empty_claims_hold.Goals as goal

pub returns : goal.returns
returns c = empty_holds
