use Rattle.std.proofs.Common.{◌≡◌, map, drop}
use Rattle.tpl_json.specs.View.{view}
use Rattle.tpl_parts.specs.Tasks.{options_at}
use Rattle.tpl_parts.proofs.tasks.options_of.Given as goal

abbrev pub invariant-loop-value : goal.invariant-loop-value
invariant-loop-value l = options_at l.options (map view (drop l.value-index l.values)) ≡ options_at 0 (map view l.values)
