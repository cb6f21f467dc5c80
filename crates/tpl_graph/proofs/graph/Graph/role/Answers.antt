use Rattle.tpl_model.specs.Graph.{kind}
use Rattle.tpl_graph.proofs.RoleLemmas.{args_within}
use Rattle.tpl_graph.proofs.graph.Graph.role.Goals as goal

pub returns-in-All-clause-within : goal.returns-in-All-clause-within
returns-in-All-clause-within c =
    let g = c.args.self.now.graph in
    args_within g c.args.task.0 (kind g c.args.task.0) c.args-in-All.result.now c.requires (c.valid_law.ensures.graph.each c.args.task.0 c.requires).placed c.args-in-All.ensures

pub returns-in-Any-clause-within : goal.returns-in-Any-clause-within
returns-in-Any-clause-within c =
    let g = c.args.self.now.graph in
    args_within g c.args.task.0 (kind g c.args.task.0) c.args-in-Any.result.now c.requires (c.valid_law.ensures.graph.each c.args.task.0 c.requires).placed c.args-in-Any.ensures
