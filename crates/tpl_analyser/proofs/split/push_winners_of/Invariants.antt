use Rattle.std.specs.List.{All}
use Rattle.tpl_analyser.specs.Splits.{IsSplitOf}
use Rattle.tpl_analyser.proofs.split.push_winners_of.Given as goal

abbrev pub invariant-loop-argument : goal.invariant-loop-argument
invariant-loop-argument l = All (IsSplitOf l.graph.graph) l.splits.items
