use Rattle.tpl_run.proofs.AtomLemmas.{kept_none}
use Rattle.tpl_run.proofs.row.Row.new.Goals as goal

pub invariant_of-result : goal.invariant_of-result
invariant_of-result c = kept_none _ _ _ c.in_ok-carried.ensures.items
