-- The line that comes next.
use Rattle.std.specs.Prelude.{◌≡◌, ◌<◌, ℕ, Bool, true, false, List, [], ◌∷◌, ◌++◌, length, Option, IfSome}
use Rattle.std.specs.Io.KnownBytes.{Consumes}
use Rattle.tpl_each.specs.declared.next.Next.{Next}
use Rattle.tpl_each.specs.declared.next.Next.TheVariants.{Line, Last, End, Failed, Endless}
use Rattle.tpl_each.specs.Kept.{IsKept}
use Rattle.tpl_each.specs.Lines.{IsLine}

-- A line came with its line break; or it is the last one, and has none; or nothing came.
abbrev pub Comes : Option (List ℕ) → Option (List ℕ) → Next → Type 0
Comes old new (Line line) = (input : List ℕ) × IsLine input × IsKept input line × Consumes old new (input ++ 10 ∷ [])
Comes old new (Last line) = (input : List ℕ) × IsLine input × IsKept input line × (0 < length input) × IfSome old (λ bytes. bytes ≡ input)
Comes old new End = IfSome old (λ bytes. bytes ≡ [])
Comes old new Failed = Unit {0}
Comes old new Endless = Unit {0}

-- a read failed
abbrev pub is_failed : Next → Bool
is_failed (Line line) = false
is_failed (Last line) = false
is_failed End = false
is_failed Failed = true
is_failed Endless = false
