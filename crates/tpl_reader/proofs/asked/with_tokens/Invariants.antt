use Rattle.std.proofs.Common.{◌≡◌}
use Rattle.tpl_reader.specs.Asked.{with_tokens}
use Rattle.tpl_reader.proofs.asked.with_tokens.Given as goal

abbrev pub invariant-loop-index : goal.invariant-loop-index
invariant-loop-index l = l.given.items ≡ with_tokens l.index l.initial.given.items
