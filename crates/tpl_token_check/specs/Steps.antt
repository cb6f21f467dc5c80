-- Steps by which the rows of a leaf are worked out.
use Rattle.std.specs.Prelude.{ℕ}
use Rattle.tpl_model.specs.Graph.{is_task}
use Rattle.tpl_token_check.specs.declared.case.Case.{Case}
use Rattle.tpl_token_check.specs.declared.rows.Rows.{Rows}
use Rattle.tpl_token_check.specs.Case.{graph_by, IsCase}
use Rattle.tpl_token_check.specs.Rows.{IsRows}

-- the task is one of the leaf's graph, and there is a row for each
pub record MayStep (c : Case) (t : ℕ) (r : Rows) : Type 0 where
  pub case : IsCase c
  pub task : is_task (graph_by c) t
  pub rows : IsRows (graph_by c) r
