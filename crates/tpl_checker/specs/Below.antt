-- The tasks below each task, in memory.
use Rattle.std.specs.Prelude.{◌≡◌, ℕ, ◌<◌, [], slice_index_or}
use Rattle.tpl_model.specs.declared.limits.TheConstants.{MOST_TASKS}
use Rattle.tpl_model.specs.Members.{mem}
use Rattle.tpl_model.specs.Graph.{TaskGraph}
use Rattle.tpl_laws.specs.RowTests.{is_below}
use Rattle.tpl_checker.specs.declared.below.Below.{Below}

-- each set has the tasks below its own
pub record AreBelow (g : TaskGraph) (b : Below) : Type 0 where
  pub members : (t x : ℕ) → t < MOST_TASKS → mem x (slice_index_or b.sets t []) ≡ is_below g t x
