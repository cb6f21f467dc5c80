use Rattle.std.proofs.Common.{◌≡◌, ℕ, ◌<◌, true, length}
use Rattle.tpl_model.specs.Graph.{is_task}
use Rattle.tpl_fast.specs.Due.{is_told, waits}
use Rattle.tpl_fast.proofs.links.waiters.Given as goal

abbrev pub invariant-loop-i : goal.invariant-loop-i
invariant-loop-i l = record {
  count : length l.lists.items ≡ length l.graph.graph.tasks;
  told : (t x : ℕ) → t < l.i → is_task l.graph.graph x → waits l.graph.graph t x ≡ true → is_told l.lists.items x t ≡ true;
}
