use Rattle.std.proofs.Common.{◌≡◌, map, take, string_bytes}
use Rattle.std.specs.Option.{option_map}
use Rattle.tpl_parts.specs.SeenClaims.{claim_of}
use Rattle.tpl_reader.proofs.read.names_of.Given as goal

abbrev pub invariant-loop-claim : goal.invariant-loop-claim
invariant-loop-claim l = map (λ n. option_map string_bytes n) l.names.items ≡ map (λ c. c.name) (map claim_of (take l.claim-index l.claims))
