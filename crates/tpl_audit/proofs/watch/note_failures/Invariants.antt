use Rattle.tpl_model.specs.Facts.{failed}
use Rattle.tpl_audit.proofs.WatchLemmas.{NotedSoFar}
use Rattle.tpl_audit.proofs.watch.note_failures.Given as goal

abbrev pub invariant-loop-i : goal.invariant-loop-i
invariant-loop-i g l =
    let j = g.C.Core.journal l.core in
    NotedSoFar 256 l.initial.noted l.noted (failed j.graph j.inputs j.events) l.place l.i
