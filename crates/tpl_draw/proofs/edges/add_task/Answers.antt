use Rattle.std.proofs.Common.{ap, ◌∙◌}
use Rattle.std.proofs.lemmas.Result.{on_ok_weaker}
use Rattle.tpl_draw.specs.Edges.{edge_token}
use Rattle.tpl_draw.proofs.AddedLemmas.{task_edges_added}
use Rattle.tpl_draw.proofs.edges.add_task.Goals as goal

pub returns : goal.returns
returns c =
    let own = c.edge_token.ensures ∙ ap (edge_token c.args.graph.now.graph) c.own_token.ensures in
    let script = c.body-2.ensures.body ∙ c.body.ensures in
    on_ok_weaker c.add_acts.result
    (task_edges_added c.args.graph.now.graph c.args.task.0 _ _ _ _ _ _ _ _ _
    own c.antecedent.ensures c.args-2.ensures script
    c.in_ok-add_own.ensures c.in_ok-add_after.ensures c.in_ok-add_arguments.ensures)
    c.add_acts.ensures
