use Rattle.std.proofs.Common.{◌≡◌, map, take}
use Rattle.serde_json.specs.Data.{string}
use Rattle.serde_json.specs.View.{view}
use Rattle.tpl_model.specs.Statuses.{status_name}
use Rattle.tpl_shown.proofs.found.status_values.Given as goal

abbrev pub invariant-loop-status : goal.invariant-loop-status
invariant-loop-status l = map view l.values.items ≡ map string (map status_name (take l.status-index l.statuses))
