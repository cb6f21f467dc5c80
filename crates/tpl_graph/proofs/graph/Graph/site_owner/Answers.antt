use Rattle.std.proofs.Common.{arith}
use Rattle.tpl_graph.proofs.SiteReaders.{table_long, owner_has}
use Rattle.tpl_graph.proofs.graph.Graph.site_owner.Goals as goal

pub index-requires : goal.index-requires
index-requires c = omega (arith, rw (← c.self.view_is) at c.requires, c.self.inside.sites.ok.0, table_long _ c.self.inside.sites.items c.self.invariant.0 c.self.invariant.2)

pub returns-clause-task : goal.returns-clause-task
returns-clause-task c =
    rw (← c.self.view_is) ((owner_has _ c.self.inside.sites.items _ _ c.self.invariant.0 c.self.invariant.2 (omega (arith, rw (← c.self.view_is) at c.requires, table_long _ c.self.inside.sites.items c.self.invariant.0 c.self.invariant.2)) c.index.ensures).0)

pub returns-clause-body : goal.returns-clause-body
returns-clause-body c =
    rw (← c.self.view_is) ((owner_has _ c.self.inside.sites.items _ _ c.self.invariant.0 c.self.invariant.2 (omega (arith, rw (← c.self.view_is) at c.requires, table_long _ c.self.inside.sites.items c.self.invariant.0 c.self.invariant.2)) c.index.ensures).1)
