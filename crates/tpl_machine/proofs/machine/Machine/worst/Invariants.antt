use Rattle.std.proofs.Common.{◌≡◌, drop, map}
use Rattle.tpl_model.specs.Facts.{ending, all_final}
use Rattle.tpl_draft.specs.Ids.{task_number}
use Rattle.tpl_machine.proofs.machine.Machine.worst.Given as goal

abbrev pub invariant-loop-i : goal.invariant-loop-i
invariant-loop-i l = l.so_far ≡ all_final (map task_number (drop l.i l.tasks)) (ending l.self.graph l.self.inputs l.self.events)
