use Rattle.std.proofs.Common.{◌≡◌, ◌++◌, map, take}
use Rattle.std.specs.Prelude.{string_bytes}
use Rattle.tpl_journal.specs.Lines.{line}
use Rattle.tpl_verdicts.proofs.lines.add_events.Given as goal

abbrev pub invariant-loop-event : goal.invariant-loop-event
invariant-loop-event l =
    map string_bytes l.lines.items ≡ map string_bytes l.fn.lines.items ++ map (line l.graph.names) (take l.event-index l.events)
