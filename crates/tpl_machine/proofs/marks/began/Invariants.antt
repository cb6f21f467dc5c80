use Rattle.std.proofs.Common.{◌≡◌, reverse, take}
use Rattle.tpl_run.specs.Reading.{began}
use Rattle.tpl_machine.proofs.marks.began.Given as goal

abbrev pub invariant-loop-i : goal.invariant-loop-i
invariant-loop-i l = l.place ≡ began (reverse (take l.i l.events)) l.task.0
