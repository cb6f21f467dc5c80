-- What is kept of the tokens that were requested themselves is a table.
use Rattle.std.proofs.Common.{ℕ, ◌<◌, Bool, List, arith}
use Rattle.tpl_model.specs.declared.event.Event.{Event}
use Rattle.tpl_model.specs.Graph.{TaskGraph}
use Rattle.tpl_run.specs.Rows.{TaskRow}
use Rattle.tpl_run.specs.Tokens.{IsTable}
use Rattle.tpl_machine.specs.Kept.{IsKept}

pub kept_table : (g : TaskGraph) (v : List Bool) (h : List Event) (rows : List TaskRow) (begun seen_tasks : List ℕ) (tokens : List Bool) → IsKept g v h rows begun seen_tasks tokens → IsTable g v h tokens 0
kept_table g v h rows begun seen_tasks tokens kept = record {
  below = λ k (lt : k < 0). absurd (omega arith);
  above = λ k le within. kept.each_token k;
  count = kept.token_count;
}
