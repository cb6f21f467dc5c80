-- What is taken for a line.
use Rattle.std.specs.Prelude.{◌≡◌, ℕ, List, [], ◌∷◌, ◌++◌}
use Rattle.tpl_each.specs.declared.next.Piece.{Piece}
use Rattle.tpl_each.specs.declared.next.Piece.TheVariants.{Ended, Open}
use Rattle.tpl_each.specs.Kept.{IsKept}
use Rattle.tpl_each.specs.Lines.{IsLine}

-- of the bytes that come, those up to the first line break were added to the line; all, where there is none
abbrev pub IsTaken : List ℕ → List ℕ → List ℕ → Piece → Type 0
IsTaken input old new (Ended line) = (more : List ℕ) × IsLine more × IsKept (input ++ more) line × (old ≡ more ++ (10 ∷ new))
IsTaken input old new (Open line) = IsLine old × IsKept (input ++ old) line × (new ≡ [])
