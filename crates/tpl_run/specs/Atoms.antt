-- Lists of the tasks whose exceptions a task carries.
use Rattle.std.specs.Prelude.{◌≡◌, ℕ, ◌<◌, true, List, nat_eq}
use Rattle.std.specs.List.{IsDistinct}
use Rattle.tpl_model.specs.Members.{mem}

-- numbers below n, none twice
pub record AreAtoms (n : ℕ) (xs : List ℕ) : Type 0 where
  pub below : (x : ℕ) → mem x xs ≡ true → x < n
  pub once : IsDistinct nat_eq xs
