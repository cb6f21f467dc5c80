use Rattle.std.proofs.Common.{◌≤◌, length, ◌∙◌, arith, map}
use Rattle.tpl_draft.specs.Ids.{task_number}
use Rattle.tpl_model.specs.Graph.{WhenAll}
use Rattle.tpl_checker.specs.Assumptions.{assumed_of}
use Rattle.tpl_token_leaf.proofs.NarrowLemmas.{arguments_kept, of_kind}
use Rattle.tpl_token_leaf.proofs.TaskSets.{more_tasks}
use Rattle.tpl_token_leaf.proofs.narrowing.narrow_by.Goals as goal

pub keep_all-requires : goal.keep_all-requires
keep_all-requires c =
    let g = c.args.graph.now.graph in
    let few : length g.tasks ≤ 1024 = omega (arith, c.valid_law.ensures.graph.tasks) in
    more_tasks (length g.tasks) 1024 c.in-All.args.now few c.in-All.ensures.within

pub returns-in-All : goal.returns-in-All
returns-in-All c =
    let g = c.args.graph.now.graph in
    let a = assumed_of c.args.assumed.now in
    let t = c.args.task.0 in
    let xs = map task_number c.in-All.args.now in
    of_kind g a _ t (WhenAll xs) c.in-All.ensures.kind (c.keep_all.ensures ∙ arguments_kept g a t xs c.kept-kept.result c.kept-kept.ensures)
