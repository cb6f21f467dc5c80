use Rattle.std.proofs.Common.{◌≡◌, reverse, take}
use Rattle.tpl_model.specs.Facts.{begun}
use Rattle.tpl_machine.proofs.marks.begun.Given as goal

abbrev pub invariant-loop-i : goal.invariant-loop-i
invariant-loop-i l = begun (reverse l.events) l.task.0 ≡ begun (reverse (take l.i l.events)) l.task.0
