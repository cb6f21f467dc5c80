use Rattle.std.proofs.Common.{◌≡◌, reverse, take}
use Rattle.tpl_machine.specs.Marks.{latest}
use Rattle.tpl_machine.proofs.marks.latest.Given as goal

abbrev pub invariant-loop-i : goal.invariant-loop-i
invariant-loop-i l = latest (reverse l.events) l.task.0 ≡ latest (reverse (take l.i l.events)) l.task.0
