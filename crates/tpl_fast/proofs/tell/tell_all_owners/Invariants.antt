use Rattle.std.proofs.Common.{◌≡◌, ℕ, ◌<◌, Some, false}
use Rattle.std.specs.Prelude.{slice_index_or}
use Rattle.tpl_model.specs.Graph.{is_task, task}
use Rattle.tpl_model.specs.Facts.{requested}
use Rattle.tpl_fast.specs.Due.{IsRight, Keeps}
use Rattle.tpl_fast.proofs.tell.tell_all_owners.Given as goal

abbrev pub invariant-loop-i : goal.invariant-loop-i
invariant-loop-i l = record {
  told : (t k : ℕ) → (task l.state.graph t).token ≡ Some k → is_task l.state.graph t → k < l.i → (requested l.state.graph l.state.inputs l.state.events k ≡ slice_index_or l.before k false → ⊥) → IsRight l.state l.due t;
  kept : Keeps l.state (λ t s. IsRight l.state s t) l.fn.due l.due;
}
