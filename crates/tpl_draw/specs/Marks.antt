-- How the node of a task is coloured.
use Rattle.std.specs.Prelude.{ℕ, Bool, true, false, List, [], codes}
use Rattle.tpl_model.specs.declared.finals.Final.TheVariants.{RanToCompletion, Canceled, Faulted}
use Rattle.tpl_model.specs.declared.finals.Finals.{Finals}
use Rattle.tpl_model.specs.declared.status.Status.{Status}
use Rattle.tpl_model.specs.declared.status.Status.TheVariants.{Running, WaitingForChildrenToComplete, Completed}
use Rattle.tpl_draw.specs.declared.language.Language.{Language}
use Rattle.tpl_draw.specs.Language.{choose, enclosed}

-- the class in Mermaid, or the colour in DOT, of a task by whether it may run to completion, be canceled, fault; none
-- where it can only run to completion, or nothing is said
abbrev pub paint_by : Language → (ran canceled faulted : Bool) → List ℕ
paint_by language true true true = choose language (codes "any_end") (codes "#e0d0ec")
paint_by language true true false = choose language (codes "ran_or_canceled") (codes "#fff8d0")
paint_by language true false true = choose language (codes "ran_or_faulted") (codes "#ffdfd0")
paint_by language true false false = []
paint_by language false true true = choose language (codes "canceled_or_faulted") (codes "#c596da")
paint_by language false true false = choose language (codes "canceled") (codes "#f0c848")
paint_by language false false true = choose language (codes "faulted") (codes "#ee7560")
paint_by language false false false = []

-- the class or colour of a task that may end in these ways
abbrev pub paint : Language → Finals → List ℕ
paint language e = paint_by language e.ran e.canceled e.faulted

-- the class or colour of a task that stands so in a run; none where it hasn't begun and hasn't ended
abbrev pub status_paint : Language → Status → List ℕ
status_paint language Running = choose language (codes "running") (codes "#cfe2f7")
status_paint language WaitingForChildrenToComplete = choose language (codes "running") (codes "#cfe2f7")
status_paint language (Completed RanToCompletion) = choose language (codes "ran") (codes "#d5ebd0")
status_paint language (Completed Canceled) = choose language (codes "canceled") (codes "#f0c848")
status_paint language (Completed Faulted) = choose language (codes "faulted") (codes "#ee7560")
status_paint language status = []

-- what gives a node its class or colour; nothing where it has none
abbrev pub painted : Language → List ℕ → List ℕ
painted language paint = enclosed (choose language (codes ":::") (codes ", style=filled, fillcolor=\"")) paint (choose language [] (codes "\""))
