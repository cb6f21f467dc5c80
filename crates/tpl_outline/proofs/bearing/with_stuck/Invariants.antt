use Rattle.std.specs.Prelude.{◌≡◌, ℕ, true}
use Rattle.tpl_model.specs.Members.{mem}
use Rattle.tpl_outline.proofs.bearing.with_stuck.Given as goal

abbrev pub invariant-loop-task : goal.invariant-loop-task
invariant-loop-task l = (x : ℕ) → mem x l.fn.tasks ≡ true → mem x l.tasks ≡ true
