use Rattle.tpl_draft.proofs.TooManyLemmas.{WithinUpTo}
use Rattle.tpl_draft.proofs.too_many.first_too_many.Given as goal

abbrev pub invariant-loop-t : goal.invariant-loop-t
invariant-loop-t l = WithinUpTo l.draft l.t l.sites
