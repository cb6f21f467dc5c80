-- The plain row of a task, as it lies in a leaf.
use Rattle.std.proofs.Common.{◌≡◌, ℕ, zero, suc, ◌<◌, List, [], ◌∷◌, length, slice_index_or, refl, arith}
use Rattle.tpl_model.specs.Certificate.{Row, plain, row}

pub row_at : (rows : List Row) (t : ℕ) (d : Row) → t < length (plain rows) → (slice_index_or rows t d).row ≡ row (plain rows) t
row_at [] t d lt = absurd (omega arith)
row_at (r ∷ rows) zero d lt = refl
row_at (r ∷ rows) (suc t) d lt = row_at rows t d (omega arith)
