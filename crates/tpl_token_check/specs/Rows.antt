-- Rows in memory while they are worked out.
use Rattle.std.specs.Prelude.{◌≡◌, List, length, map}
use Rattle.tpl_model.specs.Graph.{TaskGraph}
use Rattle.tpl_model.specs.Certificate.{Row}
use Rattle.tpl_paths.specs.Reading.{end_of}
use Rattle.tpl_token_leaf.specs.Leaf.{row_end}
use Rattle.tpl_token_check.specs.declared.rows.Rows.{Rows}

-- a row for each task, and beside each how its task ends
pub record IsRows (g : TaskGraph) (r : Rows) : Type 0 where
  pub count : length r.rows.items ≡ length g.tasks
  pub ends : map end_of r.ends.items ≡ map row_end r.rows.items

-- these rows, with how their tasks end
pub record AreRows (g : TaskGraph) (rows : List Row) (r : Rows) : Type 0 where
  pub same : r.rows.items ≡ rows
  pub kept : IsRows g r
