use Rattle.std.proofs.Common.{arith}
use Rattle.tpl_graph.proofs.ReaderLemmas.{site_limit}
use Rattle.tpl_graph.proofs.graph.Graph.site.Goals as goal

pub overflow_cast-result : goal.overflow_cast-result
overflow_cast-result c = omega (arith, c.in-Some.ensures.within, site_limit _ c.self.invariant.0)
