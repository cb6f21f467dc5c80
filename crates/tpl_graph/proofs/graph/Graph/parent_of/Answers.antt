use Rattle.std.proofs.Common.{length}
use Rattle.tpl_graph.specs.Rows.{graph_of}
use Rattle.tpl_graph.proofs.ReaderLemmas.{parent_if, no_parent_if, each_here}
use Rattle.tpl_graph.proofs.graph.Graph.parent_of.Goals as goal

pub returns-clause-parent : goal.returns-clause-parent
returns-clause-parent c =
    let g = graph_of c.self.inside.tokens.items (length c.self.inside.names.inputs) c.self.inside.tasks.items in
    rw (← c.self.view_is) (parent_if g _ _ (each_here _ _ _ _ c.self.invariant.1.each_parent (rw c.self.invariant.1.parents_long (rw (← c.self.view_is) at c.requires)) c.index.ensures))

pub returns-clause-none : goal.returns-clause-none
returns-clause-none c =
    let g = graph_of c.self.inside.tokens.items (length c.self.inside.names.inputs) c.self.inside.tasks.items in
    rw (← c.self.view_is) (no_parent_if g _ _ (each_here _ _ _ _ c.self.invariant.1.each_parent (rw c.self.invariant.1.parents_long (rw (← c.self.view_is) at c.requires)) c.index.ensures))
