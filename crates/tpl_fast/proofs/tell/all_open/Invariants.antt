use Rattle.std.proofs.Common.{◌≡◌, ℕ, ◌<◌, ◌≤◌, false, length}
use Rattle.tpl_model.specs.TaskSet.{is_set}
use Rattle.tpl_fast.specs.Due.{IsOpenRight}
use Rattle.tpl_fast.proofs.tell.all_open.Given as goal

abbrev pub invariant-loop-i : goal.invariant-loop-i
invariant-loop-i l = record {
  each : (t : ℕ) → t < l.i → IsOpenRight l.state l.unended t;
  none : (t : ℕ) → length l.state.graph.tasks ≤ t → is_set l.unended t ≡ false;
}
