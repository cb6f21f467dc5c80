-- How tasks were seen to end, with ids in place of names.
use Rattle.std.specs.Prelude.{ℕ, zero, suc, Bool, List, [], ◌∷◌, ◌++◌, length, Option, Some, None, option_and_then}
use Rattle.serde_json.specs.Data.{Data}
use Rattle.serde_json.specs.Find.{get}
use Rattle.tpl_model.specs.declared.ids.TaskId.{TaskId}
use Rattle.tpl_model.specs.declared.finals.Final.{Final}
use Rattle.tpl_json.specs.Finals.{final_at}
use Rattle.tpl_cert.specs.Written.{name_at}
use Rattle.tpl_reader.specs.Begin.{knows_members}

-- the names are tasks'
abbrev pub knows_ends : List (List ℕ) → Option Data → Bool
knows_ends tasks ended = knows_members tasks ended

abbrev pub with_end : TaskId → Option Final → List (TaskId × Final) → List (TaskId × Final)
with_end t None ends = ends
with_end t (Some final) ends = ends ++ (t, final) ∷ []

-- the ends of the first n tasks, as far as they were seen
abbrev pub ends_below : List (List ℕ) → Data → ℕ → List (TaskId × Final)
ends_below tasks d zero = []
ends_below tasks d (suc t) = with_end (record { 0 = t }) (option_and_then final_at (get (name_at tasks t) d)) (ends_below tasks d t)

-- in the order in which the tasks are declared
abbrev pub ends_in : List (List ℕ) → Option Data → List (TaskId × Final)
ends_in tasks None = []
ends_in tasks (Some d) = ends_below tasks d (length tasks)
