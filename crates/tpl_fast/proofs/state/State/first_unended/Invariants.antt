use Rattle.std.proofs.Common.{◌≡◌, true, map, take}
use Rattle.tpl_draft.specs.Ids.{task_number}
use Rattle.tpl_fast.specs.Kept.{has_ended, all_pass}
use Rattle.tpl_fast.proofs.state.State.first_unended.Given as goal

abbrev pub invariant-loop-i : goal.invariant-loop-i
invariant-loop-i l =
    all_pass (has_ended l.self) (map task_number (take l.from l.tasks)) ≡ true
    → all_pass (has_ended l.self) (map task_number (take l.i l.tasks)) ≡ true
