use Rattle.tpl_model.specs.View.{known}
use Rattle.tpl_model.proofs.EndsSoFar.{EndsSoFar}
use Rattle.tpl_model.proofs.ends.+ends.Given as goal

abbrev pub invariant-ends_of-loop-statement : goal.invariant-ends_of-loop-statement
invariant-ends_of-loop-statement l =
    EndsSoFar l.past_observe (known l.view) l.body l.statement-items l.statement-index l.so_far
