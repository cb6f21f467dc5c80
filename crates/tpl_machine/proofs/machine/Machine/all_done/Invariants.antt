use Rattle.std.proofs.Common.{◌≡◌}
use Rattle.tpl_laws.specs.RunTests.{all_below, has_ended}
use Rattle.tpl_machine.proofs.machine.Machine.all_done.Given as goal

abbrev pub invariant-loop-i : goal.invariant-loop-i
invariant-loop-i l = l.so_far ≡ all_below (has_ended l.self.graph l.self.inputs l.self.events) l.i
