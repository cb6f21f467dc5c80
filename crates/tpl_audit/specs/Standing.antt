-- How tasks stand after a run.
use Rattle.std.specs.Prelude.{ℕ, zero, suc, Bool, List, [], ◌∷◌, ◌++◌, length}
use Rattle.tpl_model.specs.declared.status.Status.{Status}
use Rattle.tpl_model.specs.Graph.{TaskGraph}
use Rattle.tpl_model.specs.declared.event.Event.{Event}
use Rattle.tpl_model.specs.Rules.{status}

-- the statuses of the first n tasks
abbrev pub first_statuses : TaskGraph → List Bool → List Event → ℕ → List Status
first_statuses g v h zero = []
first_statuses g v h (suc n) = first_statuses g v h n ++ status g v h n ∷ []

-- the status of each task, in declared order
abbrev pub statuses : TaskGraph → List Bool → List Event → List Status
statuses g v h = first_statuses g v h (length g.tasks)
