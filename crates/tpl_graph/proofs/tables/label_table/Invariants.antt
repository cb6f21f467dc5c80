use Rattle.tpl_draft.specs.declared.sort.Sort.TheVariants.{Labels}
use Rattle.tpl_graph.proofs.TableLemmas.{MadeUpTo}
use Rattle.tpl_graph.proofs.tables.label_table.Given as goal

abbrev pub invariant-loop-task : goal.invariant-loop-task
invariant-loop-task l = MadeUpTo Labels l.tasks l.task-index l.names
