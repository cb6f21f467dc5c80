use Rattle.std.proofs.Common.{◌≡◌}
use Rattle.tpl_laws.specs.RowTests.{is_below}
use Rattle.tpl_laws.specs.LeastRows.{downwards, end_step}
use Rattle.tpl_token_check.specs.Case.{assumed_by, ended_below, graph_by}
use Rattle.tpl_token_check.specs.Rows.{IsRows}
use Rattle.tpl_token_check.proofs.least.end_below.Given as goal

abbrev pub invariant-loop-number : goal.invariant-loop-number
invariant-loop-number l = record {
  rows : IsRows (graph_by l.case) l.rows;
  same : downwards (is_below (graph_by l.case) l.fn.task.0) (end_step (graph_by l.case) (assumed_by l.case) l.case.property) l.number l.rows.rows.items
      ≡ ended_below l.case l.fn.task.0 l.initial.rows.rows.items;
}
