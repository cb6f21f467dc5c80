use Rattle.std.proofs.Common.{◌≡◌, ◌+◌, sym, ap, ◌∙◌, subst, length}
use Rattle.tpl_graph.proofs.StarterTables.{StartedTo, one_started, whole_again}
use Rattle.tpl_graph.proofs.starters.starters.Goals as goal

pub loop-p-preserved : goal.loop-p-preserved
loop-p-preserved c =
    let same : length c.note.new.table ≡ length c.loop-p.table.items = c.note.auto.table ∙ ap length c.deref_mut.ensures.value in
    let each = rw c.deref_mut.ensures.value at (rw c.as_slice.ensures.value at c.note.ensures) in
    subst (λ l. StartedTo l c.args.starts.now (c.loop-p.p + 1)) (sym (whole_again c.loop-p.table.len c.note.new.table c.loop-p.table.items same c.loop-p.table.ok.0))
    (one_started c.loop-p.table.items c.note.new.table c.args.starts.now c.loop-p.p c.index-starts-p.result c.loop-p-test.true c.index-starts-p.is c.loop-p.invariant same each)
