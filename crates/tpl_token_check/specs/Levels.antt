-- Tasks by how many others take their exceptions over before they are read, in memory.
use Rattle.std.specs.Prelude.{◌≡◌, ℕ, ◌<◌, Bool, false, List, [], length, nat_eq, slice_index_or}
use Rattle.tpl_model.specs.Members.{mem}
use Rattle.tpl_model.specs.Graph.{TaskGraph}
use Rattle.tpl_model.specs.TokenRules.{LeafAssumed}
use Rattle.tpl_model.specs.declared.ids.TaskId.{TaskId}
use Rattle.tpl_model.specs.declared.claim.Property.{Property}
use Rattle.tpl_model.specs.declared.claim.Property.TheVariants.{Observed}
use Rattle.tpl_laws.specs.LeastRows.{is_read_after}

-- the k-th set has the tasks whose exception is read after k others have taken it over
pub record AreLevels (g : TaskGraph) (l : LeafAssumed) (levels : List (List ℕ)) : Type 0 where
  pub members : (k y : ℕ) → k < length levels → mem y (slice_index_or levels k []) ≡ is_read_after g l k y

-- the exception of t is to be observed
abbrev pub observes_it : Property TaskId → ℕ → Bool
observes_it (Observed o) t = nat_eq o.0 t
observes_it p t = false
