use Rattle.std.proofs.Common.{take, map}
use Rattle.serde_json.specs.View.{view}
use Rattle.tpl_verdicts.specs.Json.{IsNamedData}
use Rattle.tpl_verdicts.specs.Lines.{AreNumbered}
use Rattle.tpl_verdicts.specs.Told.{all_told}
use Rattle.tpl_verdicts.proofs.json.claim_values.Given as goal

abbrev pub invariant-loop-place : goal.invariant-loop-place
invariant-loop-place l =
    AreNumbered (IsNamedData l.all.searched.rules l.all.graph.now.names) 1 (take l.place (all_told l.all)) (map view l.values.items)
