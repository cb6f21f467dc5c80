-- Where a name stands twice.
use Rattle.std.specs.Prelude.{◌≡◌, ℕ, ◌<◌, true, List, Some, slice_get, take}
use Rattle.tpl_draft.specs.declared.names.NamesFault.{NamesFault}
use Rattle.tpl_draft.specs.declared.names.NamesFault.TheVariants.{Twice, Memory}
use Rattle.tpl_draft.specs.Names.{has_name, some_twice}

-- the name at a place stands before it too
abbrev pub IsTwiceAt : List (List ℕ) → ℕ → Type 0
IsTwiceAt names k = (name : List ℕ) × (slice_get names k ≡ Some name) × (has_name (take k names) name ≡ true)

-- no name below the place stands before it too
abbrev pub NoneTwiceBelow : List (List ℕ) → ℕ → Type 0
NoneTwiceBelow names k = (j : ℕ) → j < k → IsTwiceAt names j → ⊥

abbrev pub NamesFaultIs : List (List ℕ) → NamesFault → Type 0
NamesFaultIs names (Twice k) = IsTwiceAt names k × NoneTwiceBelow names k
NamesFaultIs names Memory = Unit {0}

abbrev pub IsTwice : List (List ℕ) → NamesFault → Type 0
IsTwice names (Twice k) = some_twice names ≡ true
IsTwice names Memory = Unit {0}
