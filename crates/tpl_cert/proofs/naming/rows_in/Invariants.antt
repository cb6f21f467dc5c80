use Rattle.std.proofs.Common.{◌≡◌, map, take, Ok}
use Rattle.tpl_cert.specs.Seen.{row_of}
use Rattle.tpl_cert.specs.Naming.{rows_in}
use Rattle.tpl_cert.proofs.naming.rows_in.Given as goal

abbrev pub invariant-loop-row : goal.invariant-loop-row
invariant-loop-row l = rows_in l.graph.names (map row_of (take l.row-index l.rows)) ≡ Ok l.found.items
