use Rattle.tpl_model.specs.Facts.{requested}
use Rattle.tpl_audit.proofs.WatchLemmas.{NotedSoFar}
use Rattle.tpl_audit.proofs.watch.note_requests.Given as goal

abbrev pub invariant-loop-i : goal.invariant-loop-i
invariant-loop-i g l =
    let j = g.C.Core.journal l.core in
    NotedSoFar 32 l.initial.asked l.asked (requested j.graph j.inputs j.events) l.place l.i
