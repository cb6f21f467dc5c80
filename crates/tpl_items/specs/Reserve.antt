-- The list that a queue keeps until it is drained.
use Rattle.std.specs.Prelude.{◌≡◌, ℕ, ◌≤◌, List, [], ◌∷◌}
use mathlib.Core.Option.{Option, some}

-- the table holds one list, which is empty and has this many places
abbrev pub KeepsRoom : {L T : Type 0} → (L → List T) → (L → ℕ) → ℕ → List (Option L) → Type 0
KeepsRoom {L} items capacity places homes = (list : L) × (homes ≡ some list ∷ []) × (items list ≡ []) × (places ≤ capacity list)
