-- Causes in the order of their run.
use Rattle.std.proofs.Common.{ℕ, ◌<◌, ◌≤◌, ◌++◌, List, [], ◌∷◌, arith}
use Rattle.tpl_causes.specs.declared.cause.Cause.{Cause}
use Rattle.tpl_causes.specs.Causes.{AreFrom}

-- up to a later place they are in order too
pub from_later : (before upto more events : ℕ) (causes : List Cause) → upto ≤ more → AreFrom before upto events causes → AreFrom before more events causes
from_later before upto more events [] le are = tt
from_later before upto more events (cause ∷ causes) le are =
    let within = are.1 in
    (are.0, omega (arith, within, le), are.2, are.3, from_later cause.event upto more events causes le are.4)

-- a cause behind all others
pub from_push : (before upto events : ℕ) (causes : List Cause) (last : Cause) → before ≤ upto → upto < last.event → 0 < last.led_to → last.led_to ≤ events → AreFrom before upto events causes → AreFrom before last.event events (causes ++ last ∷ [])
from_push before upto events [] last start behind some within are = (omega (arith, start, behind), omega arith, some, within, tt)
from_push before upto events (cause ∷ causes) last start behind some within are =
    let there = are.1 in
    (are.0, omega (arith, there, behind), are.2, are.3, from_push cause.event upto events causes last there behind some within are.4)
