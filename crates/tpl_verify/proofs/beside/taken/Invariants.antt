use Rattle.std.proofs.Common.{◌≡◌, ◌++◌, map, Some, vec_len}
use Rattle.tpl_verify.proofs.beside.taken.Given as goal

abbrev pub invariant-loop-places : goal.invariant-loop-places
invariant-loop-places l = l.initial.places.items ≡ map (λ v. Some v) l.verdicts.items ++ l.places.items

abbrev pub decreases-loop-places : goal.decreases-loop-places
decreases-loop-places l = vec_len l.places
