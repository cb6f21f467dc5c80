-- A list of exceptions that has none.
use Rattle.std.proofs.Common.{◌≡◌, ℕ, List, [], map, Option, sym, subst}
use Rattle.std.specs.List.{IsDistinct}
use Rattle.tpl_model.specs.declared.ids.TaskId.{TaskId}
use Rattle.tpl_draft.specs.Ids.{task_number}
use Rattle.tpl_run.specs.Atoms.{AreAtoms}
use Rattle.tpl_run.specs.Rows.{AreKeptAtoms}
use Rattle.tpl_run.specs.declared.row.Ended.{Ended}

pub no_atoms : (n : ℕ) → AreAtoms n []
unfolding IsDistinct
no_atoms n = record { below = λ x e. cc; once = tt }

pub empty_atoms : (n : ℕ) (ts : List TaskId) → ts ≡ [] → AreAtoms n (map task_number ts)
empty_atoms n ts e = subst (λ (xs : List TaskId). AreAtoms n (map task_number xs)) (sym e) (no_atoms n)

pub kept_none : (ended : Option Ended) (ts : List TaskId) (n : ℕ) → ts ≡ [] → AreKeptAtoms ended ts n
kept_none ended ts n e = record { none = λ _. e; atoms = empty_atoms n ts e }
