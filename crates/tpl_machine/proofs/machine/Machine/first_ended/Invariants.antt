use Rattle.std.proofs.Common.{◌≡◌, drop, map}
use Rattle.std.specs.Option.{option_map}
use Rattle.tpl_model.specs.Facts.{ending, first_ended}
use Rattle.tpl_draft.specs.Ids.{task_number}
use Rattle.tpl_machine.proofs.machine.Machine.first_ended.Given as goal

abbrev pub invariant-loop-i : goal.invariant-loop-i
invariant-loop-i l = option_map task_number l.best ≡ first_ended (map task_number (drop l.i l.tasks)) (ending l.self.graph l.self.inputs l.self.events)
