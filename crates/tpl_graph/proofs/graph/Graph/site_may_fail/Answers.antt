use Rattle.std.proofs.Common.{length, arith}
use Rattle.tpl_graph.specs.Rows.{graph_of}
use Rattle.tpl_graph.proofs.SiteReaders.{table_long, fails_here}
use Rattle.tpl_graph.proofs.graph.Graph.site_may_fail.Goals as goal

pub index-requires : goal.index-requires
index-requires c = omega (arith, rw (← c.self.view_is) at c.requires, c.self.inside.sites.ok.0, table_long _ c.self.inside.sites.items c.self.invariant.0 c.self.invariant.2)

pub returns : goal.returns
returns c =
    let g = graph_of c.self.inside.tokens.items (length c.self.inside.names.inputs) c.self.inside.tasks.items in
    rw (← c.self.view_is) (fails_here g c.self.inside.sites.items _ _ c.self.invariant.2 (omega (arith, rw (← c.self.view_is) at c.requires, table_long _ c.self.inside.sites.items c.self.invariant.0 c.self.invariant.2)) c.index.ensures)
