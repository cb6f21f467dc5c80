use Rattle.std.proofs.Common.{◌≡◌, map, take}
use Rattle.std.specs.Prelude.{string_bytes}
use Rattle.tpl_reasons.specs.Words.{given_word}
use Rattle.tpl_reasons.proofs.words.each_given.Given as goal

abbrev pub invariant-loop-one : goal.invariant-loop-one
invariant-loop-one l = map string_bytes l.words.items ≡ map (given_word l.graph.names) (take l.one-index l.given)
