use Rattle.std.proofs.Common.{◌≡◌, ◌++◌, map, take}
use Rattle.tpl_draft.specs.Ids.{token_number}
use Rattle.tpl_draw.specs.declared.edge.Tie.TheVariants.{Link}
use Rattle.tpl_draw.specs.Edges.{from_each}
use Rattle.tpl_draw.proofs.edges.add_links.Given as goal

abbrev pub invariant-loop-source : goal.invariant-loop-source
invariant-loop-source l = l.found.items ≡ l.fn.found.items ++ from_each Link (map token_number (take l.source-index l.sources)) l.to.0
