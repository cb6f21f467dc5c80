use Rattle.std.proofs.Common.{◌≡◌, ◌++◌}
use Rattle.tpl_draw.specs.Below.{below}
use Rattle.tpl_draw.specs.Edges.{task_edges}
use Rattle.tpl_draw.proofs.edges.add_tasks.Given as goal

abbrev pub invariant-loop-number : goal.invariant-loop-number
invariant-loop-number l = l.found.items ≡ l.fn.found.items ++ below (task_edges l.graph.graph) l.number
