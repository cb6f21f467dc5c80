use Rattle.std.proofs.Common.{◌≤◌, ◌∙◌, List, ℕ, ap, arith, length}
use Rattle.tpl_model.specs.Members.{mem}
use Rattle.tpl_checker.proofs.ChildLemmas.{attached_within}
use Rattle.tpl_token_leaf.specs.Leaf.{graph_of}
use Rattle.tpl_token_leaf.proofs.TaskSets.{more_tasks}
use Rattle.tpl_token_leaf.proofs.leaf.Leaf.attached.Goals as goal

pub task_set-requires : goal.task_set-requires
task_set-requires c =
    let g = graph_of c.args.self.now in
    let few : length g.tasks ≤ 1024 = omega (arith, c.valid_law.ensures.graph.tasks) in
    more_tasks (length g.tasks) 1024 c.attached.result.now few (attached_within g c.args.task.0 c.attached.result.now c.valid_law.ensures.graph c.attached.ensures)

pub returns : goal.returns
returns c x = c.task_set.ensures x ∙ ap (λ (xs : List ℕ). mem x xs) c.attached.ensures
