-- How tasks end, and sets of ways to end.
use Rattle.std.specs.Prelude.{◌≡◌, ℕ, Bool, true, false, List, codes}
use Rattle.tpl_model.specs.declared.finals.Final.{Final}
use Rattle.tpl_model.specs.declared.finals.Final.TheVariants.{RanToCompletion, Canceled, Faulted}
use Rattle.tpl_model.specs.declared.finals.Finals.{Finals}

-- the status is in the set
abbrev pub has : Finals → Final → Bool
has s RanToCompletion = s.ran
has s Canceled = s.canceled
has s Faulted = s.faulted

-- both statuses are the same
abbrev pub is_final : Final → Final → Bool
is_final RanToCompletion RanToCompletion = true
is_final Canceled Canceled = true
is_final Faulted Faulted = true
is_final a b = false

-- each member of the first set is one of the second
abbrev pub IsPart : Finals → Finals → Type 0
IsPart s t = (f : Final) → has s f ≡ true → has t f ≡ true

-- the word of a final status in the API documentation
abbrev pub final_name : Final → List ℕ
final_name RanToCompletion = codes "RanToCompletion"
final_name Canceled = codes "Canceled"
final_name Faulted = codes "Faulted"
