-- Lines that are answered together.
use Rattle.std.specs.Prelude.{ℕ, Bool, true, false, List, Option, IfSome}
use Rattle.std.specs.Io.KnownBytes.{Consumes}
use Rattle.std.specs.List.{All, AllZip}
use Rattle.tpl_each.specs.declared.gathering.Ends.{Ends}
use Rattle.tpl_each.specs.declared.gathering.Ends.TheVariants.{More, End, Failed, Endless}
use Rattle.tpl_each.specs.declared.slot.Slot.{Slot}
use Rattle.tpl_each.specs.Kept.{IsKept}
use Rattle.tpl_each.specs.Lines.{IsLine, broken, BeginWith, AreLines}

-- in these slots are these lines
abbrev pub AreIn : List (List ℕ) → List Slot → Type 0
AreIn = AllZip (λ line slot. IsKept line slot.line)

-- these lines came, and more may; or no more do; or what came begins with them
abbrev pub Came : Option (List ℕ) → Option (List ℕ) → List (List ℕ) → Ends → Type 0
Came old new lines More = All IsLine lines × Consumes old new (broken lines)
Came old new lines End = IfSome old (AreLines lines)
Came old new lines Failed = IfSome old (BeginWith lines)
Came old new lines Endless = IfSome old (BeginWith lines)

-- the lines that came are in the slots
abbrev pub Gathers : Option (List ℕ) → Option (List ℕ) → List Slot → Ends → Type 0
Gathers old new slots ends = (lines : List (List ℕ)) × AreIn lines slots × Came old new lines ends

-- a read failed
abbrev pub is_failed : Ends → Bool
is_failed More = false
is_failed End = false
is_failed Failed = true
is_failed Endless = false
