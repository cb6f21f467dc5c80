use Rattle.std.proofs.Common.{arith}
use Rattle.tpl_graph.proofs.ReaderLemmas.{site_limit}
use Rattle.tpl_graph.proofs.graph.Graph.site_count.Goals as goal

pub returns-clause-limit : goal.returns-clause-limit
returns-clause-limit c = omega (arith, site_limit _ c.self.invariant.0)
