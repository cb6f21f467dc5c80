use Rattle.std.specs.List.{All}
use Rattle.tpl_analyser.specs.Splits.{IsSplitOf}
use Rattle.tpl_analyser.proofs.near.near_splits.Given as goal

abbrev pub invariant-loop-task : goal.invariant-loop-task
invariant-loop-task l = All (IsSplitOf l.graph.graph) l.splits.items
