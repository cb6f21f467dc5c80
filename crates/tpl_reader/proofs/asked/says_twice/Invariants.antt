use Rattle.std.proofs.Common.{◌≡◌, map, drop}
use Rattle.tpl_parts.specs.SeenClaims.{given_of}
use Rattle.tpl_reader.specs.Asked.{says_twice}
use Rattle.tpl_reader.proofs.asked.says_twice.Given as goal

abbrev pub invariant-loop-index : goal.invariant-loop-index
invariant-loop-index l = says_twice (map given_of l.given) ≡ says_twice (map given_of (drop l.index l.given))
