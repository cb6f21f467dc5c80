-- Tables in which nothing is marked.
use Rattle.std.proofs.Common.{◌≡◌, ℕ, zero, suc, false, refl}
use Rattle.std.specs.Prelude.{slice_index_or, replicate}

pub all_false : (n k : ℕ) → slice_index_or (replicate n false) k false ≡ false
all_false zero k = refl
all_false (suc n) zero = refl
all_false (suc n) (suc k) = all_false n k
