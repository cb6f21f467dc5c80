use Rattle.tpl_run.proofs.GraphLemmas.{mem_at}
use Rattle.tpl_run.proofs.ends.all_over.Goals as goal

pub is_open-requires : goal.is_open-requires
is_open-requires g c = c.requires _ (mem_at c.args.children.now c.loop-child.child-index (record { 0 = 0 }) c.loop-child-test.true)
