use Rattle.std.proofs.Common.{◌≡◌, false, map, take}
use Rattle.std.specs.List.{list_any}
use Rattle.tpl_parts.specs.SeenClaims.{given_of}
use Rattle.tpl_reader.specs.Asked.{is_no_failure}
use Rattle.tpl_reader.proofs.asked.says_no_failure.Given as goal

abbrev pub invariant-loop-one : goal.invariant-loop-one
invariant-loop-one l = list_any is_no_failure (map given_of (take l.one-index l.given)) ≡ false
