use Rattle.std.proofs.Common.{not, length, replicate}
use Rattle.tpl_laws.specs.RowTests.{parent_of}
use Rattle.tpl_laws.specs.LeastRows.{blank_row, family_step, is_attached_to, upwards}
use Rattle.tpl_token_check.specs.Case.{assumed_by, graph_by}
use Rattle.tpl_token_check.specs.Rows.{AreRows}
use Rattle.tpl_token_check.proofs.least.least_rows.Given as goal

abbrev pub invariant-loop-number : goal.invariant-loop-number
invariant-loop-number l =
    AreRows (graph_by l.case)
    (upwards (λ t. not (is_attached_to (graph_by l.case) t (parent_of (graph_by l.case) t))) (family_step (graph_by l.case) (assumed_by l.case) l.case.property) l.number (replicate (length (graph_by l.case).tasks) blank_row))
    l.rows
