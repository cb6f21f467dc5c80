-- A task in a run that is traced, and its entries.
use Rattle.std.specs.Prelude.{ℕ, suc, ◌<◌, List, drop, length, take}
use Rattle.std.specs.List.{All}
use Rattle.serde_json.specs.Data.{Data}
use Rattle.tpl_model.specs.Graph.{is_task, kind}
use Rattle.tpl_draft.specs.Named.{antecedent_of}
use Rattle.tpl_journal.specs.Lines.{CanSpell, task_name}
use Rattle.tpl_trace.specs.declared.run.Turn.{Turn}
use Rattle.tpl_trace.specs.Trace.{arrow_to, arrows_from, instant}

-- the task is one of the graph, each event of the run can be spelled, and one of them is at this place
pub record IsTurn (turn : Turn) : Type 0 where
  pub task : is_task turn.run.graph.now.graph turn.task.0
  pub events : All (CanSpell turn.run.graph.now.graph) turn.run.events.now
  pub here : turn.here.before < length turn.run.events.now

-- the instant at which this is done to the task
abbrev pub instant_of : (verb : List ℕ) → Turn → Data
instant_of verb turn = instant verb (task_name turn.run.graph.now.names turn.task) turn.here.track turn.here.time

-- the arrows from here, where the task ended, to the later events
abbrev pub arrows_of : Turn → List Data
arrows_of turn = arrows_from turn.run.graph.now.graph turn.task.0 turn.here (drop (suc turn.here.before) turn.run.events.now)

-- the end of the arrow to the release of the task
abbrev pub arrow_of : Turn → List Data
arrow_of turn = arrow_to (antecedent_of (kind turn.run.graph.now.graph turn.task.0)) turn.here (take turn.here.before turn.run.events.now)
