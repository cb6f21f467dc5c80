use Rattle.tpl_draft.specs.declared.sort.Sort.TheVariants.{Labels}
use Rattle.tpl_graph.proofs.TableLemmas.{none_made, one_made, all_made}
use Rattle.tpl_graph.proofs.tables.label_table.Goals as goal

pub loop-task-init : goal.loop-task-init
loop-task-init c = none_made Labels _ _ c.new-names.ensures

pub loop-task-preserved : goal.loop-task-preserved
loop-task-preserved c = one_made Labels _ _ _ _ _ c.loop-task-test.true c.task-item.is c.loop-task.invariant c.in_ok-add_task.ensures.names

pub returns : goal.returns
returns c = all_made Labels _ _ _ c.loop-task-test.false c.loop-task.invariant
