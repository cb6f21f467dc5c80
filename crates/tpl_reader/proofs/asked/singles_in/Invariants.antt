use Rattle.std.proofs.Common.{◌≡◌, map, take, Ok}
use Rattle.tpl_parts.specs.SeenClaims.{given_of}
use Rattle.tpl_reader.specs.Asked.{singles_in}
use Rattle.tpl_reader.proofs.asked.singles_in.Given as goal

abbrev pub invariant-loop-one : goal.invariant-loop-one
invariant-loop-one l = singles_in l.graph.names (map given_of (take l.one-index l.given)) ≡ Ok l.found.items
