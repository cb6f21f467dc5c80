use Rattle.std.proofs.Common.{◌≡◌, map, take, Ok}
use Rattle.tpl_parts.specs.SeenClaims.{claim_of}
use Rattle.tpl_json.specs.Passes.{each_from}
use Rattle.tpl_reader.specs.Asked.{claim_among}
use Rattle.tpl_reader.proofs.asked.claims_in.Given as goal

abbrev pub invariant-loop-index : goal.invariant-loop-index
invariant-loop-index l = each_from (claim_among l.graph (map claim_of l.claims)) 1 (map claim_of (take l.index l.claims)) ≡ Ok l.asked.items
