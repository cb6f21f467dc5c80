-- Each list inside a statement has fewer statements than the list that holds the statement.
use Rattle.std.specs.Prelude.{◌≤◌, List, [], ◌∷◌}
use Rattle.std.proofs.Common.{arith}
use denote.Param.Weighed.{most}
use Rattle.tpl_draft.specs.declared.draft.DraftStmt.{DraftStmt}
use Rattle.tpl_draft.specs.declared.draft.DraftStmt.TheVariants as stmt
use Rattle.tpl_draft.specs.declared.draft.DraftBody.TheDeep.{deep-DraftStmt}
use Rattle.tpl_draft.specs.Draft.{line_count, count_line}
use Rattle.tpl_draft.specs.SeenDraft.{line_of, lines_of}

pub deep_le-count : (s : DraftStmt) → deep-DraftStmt s ≤ count_line (line_of s)
deep_le-count stmt.Return = omega arith
deep_le-count s = omega arith

pub deepest_le-count : (list : List DraftStmt) → most deep-DraftStmt list ≤ line_count (lines_of list)
deepest_le-count [] = omega arith
deepest_le-count (s ∷ rest) = omega (arith, deep_le-count s, deepest_le-count rest)
