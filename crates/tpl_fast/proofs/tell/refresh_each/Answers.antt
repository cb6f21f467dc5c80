use Rattle.std.proofs.Common.{length}
use Rattle.tpl_fast.specs.Due.{IsRight}
use Rattle.tpl_fast.proofs.IndexLemmas.{each_more, keeps_both}
use Rattle.tpl_fast.proofs.tell.refresh_each.Goals as goal

pub loop-task-preserved : goal.loop-task-preserved
loop-task-preserved c = record {
  told = each_more (length c.args.state.now.graph.tasks) (λ t. IsRight c.args.state.now c.loop-task.due t) (λ t. IsRight c.args.state.now c.refresh.new.due t) c.args.tasks.now c.loop-task.task-index (record { 0 = 0 }) c.loop-task-test.true
      c.refresh.ensures.kept.still c.refresh.ensures.told c.loop-task.invariant.told;
  kept = keeps_both c.args.state.now (λ t s. IsRight c.args.state.now s t) c.args.due.now c.loop-task.due c.refresh.new.due c.loop-task.invariant.kept c.refresh.ensures.kept;
}
