use Rattle.std.specs.Prelude.{◌≡◌, ℕ, ◌<◌, true}
use Rattle.tpl_model.specs.Members.{mem}
use Rattle.tpl_model.specs.Claims.{names}
use Rattle.tpl_outline.proofs.bearing.bearing_tasks.Given as goal

abbrev pub invariant-loop : goal.invariant-loop
invariant-loop l = (x : ℕ) → x < 1024 → names l.fn.property x ≡ true → mem x l.bearing ≡ true
