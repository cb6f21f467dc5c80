use Rattle.std.proofs.Common.{◌≡◌, map, take}
use Rattle.tpl_graph.specs.Starters.{parent_in}
use Rattle.tpl_graph.proofs.starters.parents.Given as goal

abbrev pub invariant-loop-starter : goal.invariant-loop-starter
invariant-loop-starter l = l.parents.items ≡ map parent_in (take l.starter-index l.table)
