use Rattle.std.proofs.Common.{◌≡◌, take}
use Rattle.tpl_reasons.specs.Words.{inputs_given}
use Rattle.tpl_reasons.proofs.words.inputs_given.Given as goal

abbrev pub invariant-loop-number : goal.invariant-loop-number
invariant-loop-number l = l.given.items ≡ inputs_given 0 (take l.number l.inputs)
