use Rattle.std.proofs.Common.{◌≡◌, ◌+◌, ◌*◌, map, take, Some}
use Rattle.tpl_json.specs.View.{view}
use Rattle.tpl_draft.specs.SeenDraft.{line_of}
use Rattle.tpl_json.specs.Members.{each}
use Rattle.tpl_parts.specs.Statements.{statement_at, body_at}
use Rattle.tpl_parts.proofs.statements.+body.Given as goal

abbrev pub decreases-body_of : goal.decreases-body_of
decreases-body_of l = 8 * l.levels

abbrev pub decreases-first_of : goal.decreases-first_of
decreases-first_of l = 8 * l.levels + 1

abbrev pub decreases-second_of : goal.decreases-second_of
decreases-second_of l = 8 * l.levels + 1

abbrev pub decreases-if_of : goal.decreases-if_of
decreases-if_of l = 8 * l.levels + 2

abbrev pub decreases-when_of : goal.decreases-when_of
decreases-when_of l = 8 * l.levels + 2

abbrev pub decreases-branch_of : goal.decreases-branch_of
decreases-branch_of l = 8 * l.levels + 3

abbrev pub decreases-statement_of : goal.decreases-statement_of
decreases-statement_of l = 8 * l.levels + 4

abbrev pub decreases-statements_of : goal.decreases-statements_of
decreases-statements_of l = 8 * l.levels + 5

abbrev pub decreases-list_of_statements : goal.decreases-list_of_statements
decreases-list_of_statements l = 8 * l.levels + 6

abbrev pub invariant-statements_of-loop-value : goal.invariant-statements_of-loop-value
invariant-statements_of-loop-value l = each (statement_at (body_at l.levels)) (map view (take l.value-index l.values)) ≡ Some (map line_of l.statements.items)
