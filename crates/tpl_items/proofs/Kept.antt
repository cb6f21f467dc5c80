-- What lies in a table that nobody stepped on.
use Rattle.std.proofs.Common.{◌≡◌, ℕ, ◌≤◌, List, [], ap, sym, ◌∙◌, subst}
use mathlib.Core.Option.{some, some-injective}
use lib.ListN.{get_elem?}
use Rattle.atomic_table.specs.Table.{Final}
use Rattle.tpl_items.specs.Reserve.{KeepsRoom}

-- the value in the table's one place is the list that was kept there
pub still_has_room : {L T V : Type 0} (items : L → List T) (capacity : L → ℕ) (places : ℕ) (words : List ℕ) (slots : List L) (got : L)
    → Final {S = L} {V = V} (λ s. KeepsRoom items capacity places s.homes) words slots → get_elem? slots 0 ≡ some got → (items got ≡ []) × (places ≤ capacity got)
still_has_room {L} {T} items capacity places words slots got final at =
    let kept = final.1 in
    let there = final.4 0 kept.0 (ap (λ h. get_elem? h 0) kept.1) in
    let P : L → Type 0 = λ l. (items l ≡ []) × (places ≤ capacity l) in
    subst P (some-injective kept.0 got (sym there ∙ at)) (kept.2, kept.3)
