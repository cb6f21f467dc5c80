-- The event that says where a task stands that hasn't ended.
use Rattle.std.specs.Prelude.{ℕ, Bool, false, Option, Some, None, List, [], ◌∷◌, if◌then◌else◌, nat_eq}
use Rattle.tpl_model.specs.declared.finals.Final.{Final}
use Rattle.tpl_model.specs.declared.status.Status.{Status}
use Rattle.tpl_model.specs.declared.status.Status.TheVariants.{WaitingToRun, Running, WaitingForChildrenToComplete, Completed}
use Rattle.tpl_graph.specs.declared.row.Kind.{Kind}
use Rattle.tpl_model.specs.declared.event.Act.{Act}
use Rattle.tpl_model.specs.declared.event.Act.TheVariants.{Release, Begin, Leave}
use Rattle.tpl_model.specs.declared.event.Event.{Event}
use Rattle.tpl_run.specs.Tests.{opening_of}
use Rattle.tpl_machine.specs.declared.marks.Mark.{Mark}
use Rattle.tpl_machine.specs.declared.marks.Mark.TheVariants.{Released, Begun, Left}

-- what an act says of the task
abbrev pub mark_by : Act → ℕ → Option Mark
mark_by (Release s) t = if nat_eq s.0 t then Some Released else None
mark_by (Begin s) t = if nat_eq s.0 t then Some Begun else None
mark_by (Leave s) t = if nat_eq s.0 t then Some Left else None
mark_by act t = None

abbrev pub or_before : Option Mark → Option Mark → Option Mark
or_before None before = before
or_before (Some m) before = Some m

-- the newest of these marks
abbrev pub latest : List Event → ℕ → Option Mark
latest [] t = None
latest (e ∷ h) t = or_before (mark_by e.act t) (latest h t)

-- where a task stands, by how it ended and its newest mark
abbrev pub status_marked : Option Final → Option Mark → Kind → Bool → Status
status_marked (Some f) m kind started = Completed f
status_marked None (Some Left) kind started = WaitingForChildrenToComplete
status_marked None (Some Begun) kind started = Running
status_marked None (Some Released) kind started = WaitingToRun
status_marked None None kind started = opening_of kind started false
