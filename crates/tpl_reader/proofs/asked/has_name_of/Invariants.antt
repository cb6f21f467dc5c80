use Rattle.std.proofs.Common.{◌≡◌, false, map, take}
use Rattle.tpl_parts.specs.SeenClaims.{claim_of}
use Rattle.tpl_reader.specs.Asked.{has_name_of}
use Rattle.tpl_reader.proofs.asked.has_name_of.Given as goal

abbrev pub invariant-loop-one : goal.invariant-loop-one
invariant-loop-one l = has_name_of (map claim_of (take l.one-index l.before)) (claim_of l.claim) ≡ false
