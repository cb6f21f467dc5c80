-- The steps in the making of a leaf's rows.
use Rattle.std.specs.Prelude.{ℕ}
use Rattle.tpl_model.specs.Graph.{TaskGraph, is_task}
use Rattle.tpl_outline.specs.declared.stages.Stage.{Stage}
use Rattle.tpl_outline.specs.declared.stages.Stage.TheVariants.{Begin, End}

-- the task whose stage it is
abbrev pub task_of : Stage → ℕ
task_of (Begin t) = t.0
task_of (End t) = t.0

-- a stage of one of the graph's tasks
abbrev pub IsStageOf : TaskGraph → Stage → Type 0
IsStageOf g (Begin t) = is_task g t.0
IsStageOf g (End t) = is_task g t.0
