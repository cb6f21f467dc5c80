use Rattle.std.proofs.Common.{◌≡◌, map, take}
use Rattle.std.specs.Prelude.{string_bytes}
use Rattle.tpl_reasons.specs.Words.{listed}
use Rattle.tpl_reasons.proofs.words.listed.Given as goal

abbrev pub invariant-loop-place : goal.invariant-loop-place
invariant-loop-place l = string_bytes l.list ≡ listed l.between (map string_bytes (take l.place l.words))
