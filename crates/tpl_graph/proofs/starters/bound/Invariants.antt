use Rattle.std.proofs.Common.{◌≡◌, ◌≤◌, ◌+◌, ◌*◌, take, length}
use Rattle.std.specs.Prelude.{sum_by}
use Rattle.tpl_model.specs.Limits.{statement_count}
use Rattle.tpl_graph.proofs.starters.bound.Given as goal

abbrev pub invariant-loop-row : goal.invariant-loop-row
invariant-loop-row l = record {
  sum : l.total ≡ l.tokens + sum_by (λ row. 4 + statement_count row.script) (take l.row-index l.rows);
  small : l.total ≤ 32 + 259 * l.row-index;
  few : length l.rows ≤ 1024;
}
