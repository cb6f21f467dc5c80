use Rattle.tpl_graph.proofs.StarterTables.{NotedTo}
use Rattle.tpl_graph.proofs.starters.note.Given as goal

abbrev pub invariant-loop-child : goal.invariant-loop-child
invariant-loop-child l = NotedTo l.fn.table l.table l.starter.0 l.starts l.child-index
