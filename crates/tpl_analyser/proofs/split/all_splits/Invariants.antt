use Rattle.std.specs.List.{All}
use Rattle.tpl_analyser.specs.Splits.{IsSplitOf}
use Rattle.tpl_analyser.proofs.split.all_splits.Given as goal

abbrev pub invariant-loop-input : goal.invariant-loop-input
invariant-loop-input l = All (IsSplitOf l.graph.graph) l.splits.items
