use Rattle.std.proofs.Common.{◌≡◌, drop}
use Rattle.tpl_draw.specs.Endings.{either, ends}
use Rattle.tpl_draw.proofs.ending.ends.Given as goal

abbrev pub invariant-loop-tree : goal.invariant-loop-tree
invariant-loop-tree l = either l.found (ends (drop l.tree-index l.trees) l.task) ≡ ends l.trees l.task
