-- The ends that are left to tasks, in memory.
use Rattle.std.specs.Prelude.{ℕ, not, Bool, List}
use Rattle.tpl_model.specs.declared.finals.Final.{Final}
use Rattle.tpl_model.specs.declared.finals.Final.TheVariants.{RanToCompletion, Canceled, Faulted}
use Rattle.tpl_model.specs.Members.{mem}
use Rattle.tpl_checker.specs.declared.left.Left.{Left}

-- the tasks that don't end in this way
abbrev pub excluded : Left → Final → List ℕ
excluded c RanToCompletion = c.not_ran
excluded c Canceled = c.not_canceled
excluded c Faulted = c.not_faulted

-- t may end in f
abbrev pub left_by : Left → ℕ → Final → Bool
left_by c t f = not (mem t (excluded c f))
