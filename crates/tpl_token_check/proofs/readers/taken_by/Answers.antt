use Rattle.std.proofs.Common.{◌≤◌, ◌||◌, length, ap, ◌∙◌, arith}
use Rattle.tpl_laws.specs.RowTests.{is_argument}
use Rattle.tpl_token_leaf.specs.Leaf.{graph_of}
use Rattle.tpl_token_leaf.proofs.TaskSets.{more_tasks}
use Rattle.tpl_token_check.proofs.readers.taken_by.Goals as goal

pub task_set-requires : goal.task_set-requires
task_set-requires c =
    let g = graph_of c.args.leaf.now in
    let few : length g.tasks ≤ 1024 = omega (arith, c.valid_law.ensures.graph.tasks) in
    more_tasks (length g.tasks) 1024 c.in-All.args.now few c.in-All.ensures.within

pub returns-in-All : goal.returns-in-All
returns-in-All c y = c.union.ensures.members y ∙ (λ i. c.attached-attached.ensures y i || (c.task_set.ensures y ∙ ap (is_argument y) c.in-All.ensures.kind) i)
