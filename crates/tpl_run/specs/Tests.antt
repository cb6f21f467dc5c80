-- What the machine's tests read.
use Rattle.std.specs.Prelude.{Bool, true, false, Option, Some, None}
use Rattle.tpl_model.specs.declared.finals.Final.{Final}
use Rattle.tpl_model.specs.declared.status.Status.{Status}
use Rattle.tpl_model.specs.declared.status.Status.TheVariants.{Created, WaitingForActivation, WaitingToRun, Running, WaitingForChildrenToComplete, Completed}
use Rattle.tpl_model.specs.declared.status.Actor.{Actor}
use Rattle.tpl_graph.specs.declared.row.Kind.{Kind}
use Rattle.tpl_graph.specs.declared.row.Kind.TheVariants.{Root, Child, All}

-- where a task stands, by how it ended
abbrev pub status_from : Option Final → Bool → Option Actor → Status → Status
status_from (Some f) left begun before = Completed f
status_from None true begun before = WaitingForChildrenToComplete
status_from None false (Some actor) before = Running
status_from None false None before = before

-- where a task stands that hasn't begun
abbrev pub opening_of : Kind → Bool → Bool → Status
opening_of Root started released = WaitingToRun
opening_of Child true released = WaitingToRun
opening_of kind started true = WaitingToRun
opening_of Child false false = Created
opening_of kind started false = WaitingForActivation

abbrev pub is_all : Kind → Bool
is_all All = true
is_all kind = false
