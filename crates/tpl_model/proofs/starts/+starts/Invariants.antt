use Rattle.tpl_model.specs.View.{known}
use Rattle.tpl_model.proofs.StartsSoFar.{AddsSoFar}
use Rattle.tpl_model.proofs.starts.+starts.Given as goal

abbrev pub invariant-add_starts_in-loop-statement : goal.invariant-add_starts_in-loop-statement
invariant-add_starts_in-loop-statement l =
    AddsSoFar (known l.view) l.body l.statement-items l.statement-index l.fn.found l.found
