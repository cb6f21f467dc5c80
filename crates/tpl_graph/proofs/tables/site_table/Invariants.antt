use Rattle.tpl_graph.proofs.TableLemmas.{OnceUpTo}
use Rattle.tpl_graph.proofs.tables.site_table.Given as goal

abbrev pub invariant-loop-t : goal.invariant-loop-t
invariant-loop-t l = OnceUpTo l.draft l.t l.names
