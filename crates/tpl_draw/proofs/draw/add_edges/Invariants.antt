use Rattle.std.proofs.Common.{◌≡◌, ◌++◌, take}
use Rattle.std.specs.Prelude.{string_bytes, flat_map}
use Rattle.tpl_draw.specs.Picture.{edge_line}
use Rattle.tpl_draw.proofs.draw.add_edges.Given as goal

abbrev pub invariant-loop-edge : goal.invariant-loop-edge
invariant-loop-edge l = string_bytes l.text ≡ string_bytes l.fn.text ++ flat_map (edge_line l.language l.graph) (take l.edge-index l.edges)
