-- The splits of a graph.
use Rattle.std.specs.Prelude.{◌<◌}
use Rattle.tpl_model.specs.Graph.{TaskGraph, is_task}
use Rattle.tpl_analyser.specs.declared.split.Split.{Split}
use Rattle.tpl_analyser.specs.declared.split.Split.TheVariants.{Input, End, Winner}

-- a split on one of the graph's inputs, on how one of its tasks ends, or on a winner
abbrev pub IsSplitOf : TaskGraph → Split → Type 0
IsSplitOf g (Input i) = i.0 < g.inputs
IsSplitOf g (End t) = is_task g t.0
IsSplitOf g (Winner w) = Unit {0}
