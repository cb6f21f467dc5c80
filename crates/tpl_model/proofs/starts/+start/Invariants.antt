use Rattle.tpl_model.specs.View.{known}
use Rattle.tpl_model.proofs.StartsSoFar.{StartsSoFar}
use Rattle.tpl_model.proofs.starts.+start.Given as goal

abbrev pub invariant-start_in-loop-statement : goal.invariant-start_in-loop-statement
invariant-start_in-loop-statement l =
    StartsSoFar l.child.0 (known l.view) l.body l.statement-items l.statement-index l.so_far
