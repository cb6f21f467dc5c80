use Rattle.std.proofs.Common.{length}
use Rattle.tpl_causes.specs.Causes.{AreFrom}
use Rattle.tpl_causes.proofs.telling.noted_causes.Given as goal

abbrev pub invariant-loop-index : goal.invariant-loop-index
invariant-loop-index g l = AreFrom 0 l.index (length l.events) l.causes.items
