-- The ids of a tree, one after another.
use Rattle.std.proofs.Common.{◌≡◌, ℕ, zero, suc, ◌<◌, ◌&&◌, true, refl, List, [], ◌∷◌, length, get_or, map, Bool, arith}
use Rattle.std.specs.List.{list_all}
use Rattle.std.proofs.lemmas.List.{map-id}
use Rattle.tpl_cert.specs.declared.fault.TreeToFault.{TreeToFault}
use Rattle.tpl_cert.specs.declared.fault.TreeToFault.TheVariants as faults
use Rattle.tpl_model.specs.Certificate.{Row, ArePlain}
use Rattle.tpl_cert.specs.Written.{Unwritten}
use Rattle.tpl_cert.proofs.Names.{list_all_stops}

-- the first of two isn't written, or the second
pub unwritten_first : (e : TreeToFault) (a b : Bool) → Unwritten e a → Unwritten e (a && b)
unwritten_first faults.Memory a b h = tt
unwritten_first faults.Unknown a b h = rw h refl

pub unwritten_second : (e : TreeToFault) (a b : Bool) → a ≡ true → Unwritten e b → Unwritten e (a && b)
unwritten_second e a b known h = rw known h

-- the exit of a loop at an element that isn't written
pub unwritten_all : {X Y : Type 0} (p : Y → Bool) (g : X → Y) (xs : List X) (i : ℕ) (d : X) (e : TreeToFault) → i < length xs → Unwritten e (p (g (get_or xs i d))) → Unwritten e (list_all p (map g xs))
unwritten_all p g xs i d faults.Memory lt h = tt
unwritten_all p g xs i d faults.Unknown lt h = list_all_stops p g xs i d lt h

pub unwritten_some : {X : Type 0} (p : X → Bool) (xs : List X) (i : ℕ) (d : X) (e : TreeToFault) → i < length xs → Unwritten e (p (get_or xs i d)) → Unwritten e (list_all p xs)
unwritten_some p xs i d e lt h = rw map-id at (unwritten_all p (λ x. x) xs i d e lt h)

-- a row of a plain leaf says nothing of tokens
pub plain_row_at : (rows : List Row) (i : ℕ) (d : Row) → i < length rows → ArePlain rows → ((get_or rows i d).asked ≡ []) × ((get_or rows i d).asks ≡ [])
plain_row_at [] i d lt plain = absurd (omega arith)
plain_row_at (r ∷ rows) zero d lt plain = (plain.0, plain.1)
plain_row_at (r ∷ rows) (suc i) d lt plain = plain_row_at rows i d (omega arith) plain.2
