use Rattle.std.proofs.Common.{get_or}
use Rattle.std.proofs.lemmas.List.{get_or_default}
use Rattle.tpl_graph.proofs.StarterTables.{noted_here, noted_past}
use Rattle.tpl_graph.proofs.starters.note.Goals.{then-c-table, else-c-table}
use Rattle.tpl_graph.proofs.starters.note.Goals as goal

pub loop-child-preserved : goal.loop-child-preserved
loop-child-preserved c = elim c.if-c-table.branch [ then-c-table w ↦ rw w.table-is (noted_here c.args.table.now c.loop-child.table c.args.starter.0 c.args.starts.now c.loop-child.child-index (get_or c.args.starts.now c.loop-child.child-index (record { 0 = 0 })) w.more.result c.loop-child-test.true (get_or_default c.args.starts.now c.loop-child.child-index _ _ c.loop-child-test.true) c.loop-child.invariant w.if-c-table.true w.more.ensures) | else-c-table w ↦ rw w.table-is (noted_past c.args.table.now c.loop-child.table c.args.starter.0 c.args.starts.now c.loop-child.child-index (get_or c.args.starts.now c.loop-child.child-index (record { 0 = 0 })) c.loop-child-test.true (get_or_default c.args.starts.now c.loop-child.child-index _ _ c.loop-child-test.true) c.loop-child.invariant w.if-c-table.false) ]
