use Rattle.std.proofs.Common.{◌≡◌, ◌≤◌, ◌++◌, suc, drop, length, map}
use Rattle.serde_json.specs.View.{view}
use Rattle.tpl_trace.specs.Trace.{arrows}
use Rattle.tpl_trace.specs.Turns.{arrows_of}
use Rattle.tpl_trace.proofs.arrows.add_arrows.Given as goal

abbrev pub invariant-loop-before : goal.invariant-loop-before
invariant-loop-before l = record {
  within : l.before ≤ length l.turn.run.events.now;
  so_far : map view l.entries.items ++ arrows l.turn.run.graph.now.graph l.turn.task.0 l.turn.here.track l.turn.here.time (suc l.before) (drop l.before l.turn.run.events.now)
      ≡ map view l.fn.entries.items ++ arrows_of l.turn;
}
