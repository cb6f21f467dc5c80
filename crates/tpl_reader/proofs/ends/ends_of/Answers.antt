use Rattle.std.proofs.Common.{◌∙◌}
use Rattle.tpl_json.specs.View.{view}
use Rattle.tpl_reader.proofs.EndLaws.{ends_more, ends_of_tasks}
use Rattle.tpl_reader.proofs.ends.ends_of.Goals as goal

pub loop-index-preserved : goal.loop-index-preserved
loop-index-preserved c = (
  c.in_ok-add_end.ensures.ok ∙ ends_more c.args.graph.now.names.tasks (view c.args.value.now) c.loop-index.index c.name.result.now c.end_in-end.result c.loop-index.ends.items c.name.ensures c.loop-index.invariant.0 c.end_in-end.ensures,
  rw c.in_ok-add_end.ensures.ok (ends_of_tasks c.args.graph.now.graph c.loop-index.index c.end_in-end.result c.loop-index.ends.items (rw c.len-index-end.ensures.count at c.loop-index-test.true) c.loop-index.invariant.1),
)
