use Rattle.std.proofs.Common.{◌≡◌}
use Rattle.tpl_draw.specs.Endings.{endings}
use Rattle.tpl_draw.proofs.ending.endings.Given as goal

abbrev pub invariant-loop-task : goal.invariant-loop-task
invariant-loop-task l = l.found.items ≡ endings l.trees l.task
