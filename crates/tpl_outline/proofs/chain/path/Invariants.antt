use Rattle.std.specs.Prelude.{◌≤◌, ◌+◌, length}
use Rattle.tpl_outline.proofs.chain.path.Given as goal

abbrev pub invariant-loop : goal.invariant-loop
invariant-loop l = record {
  so_far : length l.path.items ≤ l.counter + 1;
  within : l.counter ≤ 15;
}
