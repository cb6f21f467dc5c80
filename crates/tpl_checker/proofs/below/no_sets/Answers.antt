use Rattle.std.proofs.Common.{[], inl, inr, arith, rules}
use Rattle.std.proofs.lemmas.Bool.{cases_lt}
use Rattle.std.proofs.lemmas.List.{get_or_past}
use Rattle.tpl_checker.proofs.below.no_sets.Goals as goal

pub returns : goal.returns
returns c t = elim (cases_lt t 1024) [
  | inl lt ↦ let h = c.from_fn.ensures.items.at t [] lt in let met = h.2.met in search rules
  | inr le ↦ get_or_past c.from_fn.result t [] (omega (arith, c.from_fn.ensures.items.long))
]
