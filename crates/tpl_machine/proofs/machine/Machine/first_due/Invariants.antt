use Rattle.std.proofs.Common.{ℕ, ◌<◌}
use Rattle.tpl_run.specs.Reading.{NoneDue}
use Rattle.tpl_machine.proofs.machine.Machine.first_due.Given as goal

abbrev pub invariant-loop-i : goal.invariant-loop-i
invariant-loop-i l = (s : ℕ) → s < l.i → NoneDue l.self.graph l.self.inputs l.self.events s
