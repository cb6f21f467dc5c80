use Rattle.std.proofs.Common.{◌≡◌, ◌++◌}
use Rattle.tpl_draw.specs.Below.{below}
use Rattle.tpl_draw.specs.Edges.{token_edges}
use Rattle.tpl_draw.proofs.edges.add_tokens.Given as goal

abbrev pub invariant-loop-number : goal.invariant-loop-number
invariant-loop-number l = l.found.items ≡ l.fn.found.items ++ below (token_edges l.graph.graph) l.number
