use Rattle.std.proofs.Common.{◌≡◌, ℕ, ◌<◌, ◌≤◌, false, length}
use Rattle.tpl_model.specs.TaskSet.{is_set}
use Rattle.tpl_fast.specs.Due.{IsRight}
use Rattle.tpl_fast.proofs.tell.all_due.Given as goal

abbrev pub invariant-loop-i : goal.invariant-loop-i
invariant-loop-i l = record {
  each : (t : ℕ) → t < l.i → IsRight l.state l.due t;
  none : (t : ℕ) → length l.state.graph.tasks ≤ t → is_set l.due t ≡ false;
}
