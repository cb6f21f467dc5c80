-- What a document says of a real run of its graph.
use Rattle.std.specs.Prelude.{ℕ, List, [], unwrap_or}
use Rattle.tpl_model.specs.declared.finals.Final.{Final}
use Rattle.tpl_model.specs.declared.ids.TaskId.{TaskId}
use Rattle.tpl_reader.specs.Document.{DocumentValue}

-- how tasks were seen to end in it
abbrev pub ended_of : DocumentValue → List (TaskId × Final)
ended_of doc = doc.ended

-- when each of its events came, in microseconds from the start; empty where it isn't said
abbrev pub times_of : DocumentValue → List ℕ
times_of doc = unwrap_or doc.times []
