use Rattle.std.proofs.Common.{arith}
use Rattle.tpl_graph.proofs.ReaderLemmas.{bound-limit}
use Rattle.tpl_graph.proofs.graph.Graph.bound.Goals as goal

pub returns-clause-limit : goal.returns-clause-limit
returns-clause-limit c = omega (arith, c.self.invariant.1.bounded, bound-limit _ c.self.invariant.0.graph)
