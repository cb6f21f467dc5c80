use Rattle.std.proofs.Common.{◌≡◌, map, take}
use Rattle.serde_json.specs.View.{view}
use Rattle.tpl_verdicts.specs.Json.{cause_data}
use Rattle.tpl_verdicts.proofs.causes.cause_values.Given as goal

abbrev pub invariant-loop-cause : goal.invariant-loop-cause
invariant-loop-cause l = map view l.values.items ≡ map cause_data (take l.cause-index l.causes)
