use Rattle.std.proofs.Common.{◌≡◌, true, map, take}
use Rattle.tpl_draft.specs.Ids.{task_number}
use Rattle.tpl_fast.specs.Kept.{is_over, all_pass}
use Rattle.tpl_fast.proofs.state.State.first_open.Given as goal

abbrev pub invariant-loop-i : goal.invariant-loop-i
invariant-loop-i l =
    all_pass (is_over l.self) (map task_number (take l.from l.children)) ≡ true
    → all_pass (is_over l.self) (map task_number (take l.i l.children)) ≡ true
