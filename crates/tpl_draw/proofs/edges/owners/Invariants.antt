use Rattle.std.proofs.Common.{◌≡◌, ◌≤◌}
use Rattle.tpl_draw.specs.Edges.{owners}
use Rattle.tpl_draw.proofs.edges.owners.Given as goal

abbrev pub invariant-loop-number : goal.invariant-loop-number
invariant-loop-number l = record { exact : l.count ≡ owners l.graph.graph l.token.0 l.number; fits : l.count ≤ l.number }
