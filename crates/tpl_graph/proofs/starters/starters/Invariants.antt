use Rattle.tpl_graph.proofs.StarterTables.{StartedTo}
use Rattle.tpl_graph.proofs.starters.starters.Given as goal

abbrev pub invariant-loop-p : goal.invariant-loop-p
invariant-loop-p l = StartedTo l.table.items l.starts l.p
