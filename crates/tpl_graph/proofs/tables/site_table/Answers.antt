use Rattle.tpl_graph.proofs.TableLemmas.{once_at_next, twice_here}
use Rattle.tpl_graph.proofs.tables.site_table.Goals as goal

pub returns-then-branch-clause-twice : goal.returns-then-branch-clause-twice
returns-then-branch-clause-twice c =
    twice_here c.args.draft.now c.loop-t.t c.loop-t.names c.task-item.result _ (rw c.deref-task-items.ensures.value at c.loop-t-test.true) (rw c.deref-task-items.ensures.value at c.task-item.is) c.loop-t.invariant c.in_ok-add_task.ensures.twice c.if-branch.true

pub loop-t-preserved : goal.loop-t-preserved
loop-t-preserved c =
    once_at_next c.args.draft.now c.loop-t.t c.loop-t.names _ c.task-item.result _ (rw c.deref-task-items.ensures.value at c.loop-t-test.true) (rw c.deref-task-items.ensures.value at c.task-item.is) c.loop-t.invariant c.in_ok-add_task.ensures.names c.in_ok-add_task.ensures.twice c.if-branch.false
