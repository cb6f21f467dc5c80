use Rattle.std.proofs.Common.{◌≡◌, map, take}
use Rattle.tpl_paths.specs.Reading.{end_of}
use Rattle.tpl_token_leaf.specs.Leaf.{row_end}
use Rattle.tpl_token_check.proofs.rows.child_ends.Given as goal

abbrev pub invariant-loop-row : goal.invariant-loop-row
invariant-loop-row l = map end_of l.ends.items ≡ map row_end (take l.row-index l.rows)
