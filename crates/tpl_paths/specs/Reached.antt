-- The paths to a place, in memory.
use Rattle.tpl_model.specs.Knowledge.{Reached}
use Rattle.tpl_paths.specs.declared.reached.Reached.{Reached as StoredReached}
use Rattle.tpl_paths.specs.Knowledge.{told}

-- the same as the definitions have it
abbrev pub reached_of : StoredReached → Reached
reached_of r = record { unburdened = told r.unburdened; burdened = told r.burdened }
