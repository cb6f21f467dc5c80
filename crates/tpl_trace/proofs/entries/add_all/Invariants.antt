use Rattle.std.proofs.Common.{◌≡◌, ◌++◌, [], drop, take, map}
use Rattle.serde_json.specs.View.{view}
use Rattle.tpl_trace.specs.Trace.{marks_from}
use Rattle.tpl_trace.proofs.entries.add_all.Given as goal

abbrev pub invariant-loop-before : goal.invariant-loop-before
invariant-loop-before l =
    map view l.entries.items ++ marks_from l.run.graph.now l.times l.run.events.now (take l.before l.run.events.now) (drop l.before l.run.events.now)
    ≡ map view l.fn.entries.items ++ marks_from l.run.graph.now l.times l.run.events.now [] l.run.events.now
