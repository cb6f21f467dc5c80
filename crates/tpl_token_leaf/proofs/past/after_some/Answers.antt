use Rattle.std.proofs.Common.{◌||◌, length, ap, ◌∙◌}
use Rattle.tpl_paths.specs.Facts.{has_fact}
use Rattle.tpl_checker.proofs.Basics.{next_task}
use Rattle.tpl_token_leaf.specs.Leaf.{graph_of, rows_in}
use Rattle.tpl_token_leaf.proofs.PastLemmas.{none_yet, some_step}
use Rattle.tpl_token_leaf.proofs.past.after_some.Goals as goal

pub loop-task-init : goal.loop-task-init
loop-task-init c = none_yet (length (graph_of c.args.leaf.now).tasks) (rows_in c.args.leaf.now) c.args.tasks.now c.none-facts.result c.requires.tasks c.none-facts.ensures

pub once_ended-requires-clause-task : goal.once_ended-requires-clause-task
once_ended-requires-clause-task c = next_task c.args.tasks.now c.loop-task.task-index _ c.loop-task-test.true (length (graph_of c.args.leaf.now).tasks) c.loop-task.invariant.left

pub loop-task-preserved : goal.loop-task-preserved
loop-task-preserved c =
    some_step c.union-facts.result _ c.loop-task-test.true c.loop-task.invariant (λ f. c.union-facts.ensures f ∙ ap (λ z. has_fact c.loop-task.facts f || z) (c.once_ended.ensures f))
