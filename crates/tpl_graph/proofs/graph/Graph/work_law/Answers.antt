use Rattle.tpl_graph.proofs.WorkLemmas.{is_listed}
use Rattle.tpl_graph.proofs.graph.Graph.work_law.Goals as goal

pub returns : goal.returns
returns c = rw (← c.self.view_is) (λ t site may_fail has. is_listed _ t site may_fail c.self.invariant.0 has)
