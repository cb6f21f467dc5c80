use Rattle.std.specs.List.{All}
use Rattle.tpl_outline.specs.Stages.{IsStageOf}
use Rattle.tpl_outline.proofs.stages.push_ends.Given as goal

abbrev pub invariant-loop-task : goal.invariant-loop-task
invariant-loop-task l = All (IsStageOf l.graph.graph) l.stages.items
