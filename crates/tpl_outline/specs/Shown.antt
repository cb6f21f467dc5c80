-- What an outline shows of a property.
use Rattle.std.specs.Prelude.{◌≡◌, Bool, not, ◌&&◌, ◌↔◌, IsTrue}
use Rattle.tpl_model.specs.Finals.{IsPart}
use Rattle.tpl_model.specs.declared.ids.TaskId.{TaskId}
use Rattle.tpl_model.specs.declared.claim.Property.{Property}
use Rattle.tpl_model.specs.declared.claim.Property.TheVariants.{Final, Never, Excludes}
use Rattle.tpl_outline.specs.declared.outline.Outline.{Outline}
use Rattle.tpl_outline.specs.Fates.{fate_of}

-- what is answered of a property that speaks of how tasks begin and end alone; the others look further, and nothing is said of them
abbrev pub IsAnswer : Property TaskId → Outline → Bool → Type 0
IsAnswer (Final t ends) o found = IsTrue found ↔ IsPart (fate_of o t.0).ends ends
IsAnswer (Never t) o found = found ≡ not (fate_of o t.0).runs
IsAnswer (Excludes a b) o found = found ≡ not ((fate_of o a.0).runs && (fate_of o b.0).runs)
IsAnswer p o found = Unit {0}
