use Rattle.std.proofs.Common.{◌≡◌}
use Rattle.std.specs.List.{All}
use Rattle.tpl_model.specs.Graph.{is_task}
use Rattle.tpl_json.specs.View.{view}
use Rattle.tpl_reader.specs.Ends.{ends_below}
use Rattle.tpl_reader.proofs.ends.ends_of.Given as goal

abbrev pub invariant-loop-index : goal.invariant-loop-index
invariant-loop-index l =
    (l.ends.items ≡ ends_below l.graph.names.tasks (view l.value) l.index) × All (λ said. is_task l.graph.graph said.0.0) l.ends.items
