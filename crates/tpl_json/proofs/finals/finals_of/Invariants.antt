use Rattle.std.proofs.Common.{◌≡◌, map, drop}
use Rattle.tpl_json.specs.View.{view}
use Rattle.tpl_json.specs.Finals.{finals_at, no_finals}
use Rattle.tpl_json.proofs.finals.finals_of.Given as goal

abbrev pub invariant-loop-value : goal.invariant-loop-value
invariant-loop-value l = finals_at l.finals (map view (drop l.value-index l.values)) ≡ finals_at no_finals (map view l.values)
