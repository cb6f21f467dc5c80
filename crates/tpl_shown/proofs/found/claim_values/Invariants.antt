use Rattle.std.proofs.Common.{◌≡◌, map, take}
use Rattle.serde_json.specs.Data.{string}
use Rattle.serde_json.specs.View.{view}
use Rattle.tpl_reasons.specs.Words.{claim_words}
use Rattle.tpl_shown.proofs.found.claim_values.Given as goal

abbrev pub invariant-loop-claim : goal.invariant-loop-claim
invariant-loop-claim l = map view l.values.items ≡ map string (map (claim_words l.graph.names) (take l.claim-index l.claims))
