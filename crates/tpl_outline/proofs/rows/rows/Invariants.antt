use Rattle.std.specs.Prelude.{◌≡◌, ◌≤◌, length}
use Rattle.tpl_outline.proofs.rows.rows.Given as goal

abbrev pub invariant-loop-task : goal.invariant-loop-task
invariant-loop-task l = record {
  so_far : length l.rows.items ≡ l.task;
  within : l.task ≤ length l.parts.graph.now.graph.tasks;
}
