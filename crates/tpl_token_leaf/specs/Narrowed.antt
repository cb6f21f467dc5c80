-- What is assumed in memory, narrowed.
use Rattle.std.specs.Prelude.{ℕ, List, [], ◌∷◌}
use Rattle.tpl_model.specs.declared.finals.Finals.{Finals}
use Rattle.tpl_model.specs.Graph.{TaskGraph, kind}
use Rattle.tpl_model.specs.Certificate.{Assumed}
use Rattle.tpl_model.specs.TokenRules.{narrowed_by, narrowed_from}
use Rattle.tpl_checker.specs.Assumptions.{with_kept}

-- where the ends that are left are narrowed by t
abbrev pub narrowed_once : TaskGraph → Assumed → ℕ → Assumed
narrowed_once g a t = record a { left = narrowed_by g t (kind g t) a.left }

-- where they are by the first n tasks, from the last of them to the first
abbrev pub narrowed_before : TaskGraph → Assumed → ℕ → Assumed
narrowed_before g a n = record a { left = narrowed_from g n a.left }

-- where each of the tasks ends in one of these ways
abbrev pub with_all_kept : Assumed → List ℕ → Finals → Assumed
with_all_kept a [] ends = a
with_all_kept a (t ∷ tasks) ends = with_all_kept (with_kept a t ends) tasks ends
