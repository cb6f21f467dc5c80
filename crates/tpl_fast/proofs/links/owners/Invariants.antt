use Rattle.std.proofs.Common.{◌≡◌, ℕ, ◌<◌, true, Some, length}
use Rattle.tpl_model.specs.Graph.{task}
use Rattle.tpl_fast.specs.Due.{is_told}
use Rattle.tpl_fast.proofs.links.owners.Given as goal

abbrev pub invariant-loop-i : goal.invariant-loop-i
invariant-loop-i l = record {
  count : length l.lists.items ≡ 32;
  told : (t k : ℕ) → t < l.i → (task l.graph.graph t).token ≡ Some k → is_told l.lists.items k t ≡ true;
}
