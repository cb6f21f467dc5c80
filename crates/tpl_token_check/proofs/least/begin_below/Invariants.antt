use Rattle.tpl_laws.specs.RowTests.{is_below}
use Rattle.tpl_laws.specs.LeastRows.{begin_step, upwards}
use Rattle.tpl_token_check.specs.Case.{assumed_by, graph_by}
use Rattle.tpl_token_check.specs.Rows.{AreRows}
use Rattle.tpl_token_check.proofs.least.begin_below.Given as goal

abbrev pub invariant-loop-number : goal.invariant-loop-number
invariant-loop-number l = AreRows (graph_by l.case) (upwards (is_below (graph_by l.case) l.fn.task.0) (begin_step (graph_by l.case) (assumed_by l.case)) l.number l.initial.rows.rows.items) l.rows
