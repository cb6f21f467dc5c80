use Rattle.tpl_model.specs.Prelude.{is_task}
use Rattle.tpl_verify.proofs.empty.above.Given as goal

abbrev pub invariant-loop : goal.invariant-loop
invariant-loop l = is_task l.graph.graph l.top.0
