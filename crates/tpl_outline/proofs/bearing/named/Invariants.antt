use Rattle.std.specs.Prelude.{◌≡◌, ℕ, ◌<◌, true}
use Rattle.tpl_model.specs.Claims.{names}
use Rattle.tpl_model.specs.Members.{mem}
use Rattle.tpl_outline.proofs.bearing.named.Given as goal

abbrev pub invariant-loop-number : goal.invariant-loop-number
invariant-loop-number l = (x : ℕ) → x < l.number → names l.fn.property x ≡ true → mem x l.tasks ≡ true
