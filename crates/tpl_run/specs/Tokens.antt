-- Which tokens are requested, by a table.
use Rattle.std.specs.Prelude.{◌≡◌, ℕ, ◌<◌, ◌≤◌, Bool, false, List, length, slice_index_or}
use Rattle.tpl_model.specs.declared.limits.TheConstants.{MOST_TOKENS}
use Rattle.tpl_model.specs.declared.event.Event.{Event}
use Rattle.tpl_model.specs.Graph.{TaskGraph, is_token}
use Rattle.tpl_model.specs.Facts.{requested, requested_itself}

-- in the table the tokens below i are requested, and those from i on requested themselves
pub record IsTable (g : TaskGraph) (v : List Bool) (h : List Event) (table : List Bool) (i : ℕ) : Type 0 where
  pub below : (k : ℕ) → k < i → slice_index_or table k false ≡ requested g v h k
  pub above : (k : ℕ) → i ≤ k → is_token g k → slice_index_or table k false ≡ requested_itself g v h k
  pub count : length table ≡ MOST_TOKENS
