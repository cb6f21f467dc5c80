use Rattle.std.proofs.Common.{◌≡◌, ℕ, ◌<◌, true, length, map, take}
use Rattle.tpl_model.specs.Members.{mem}
use Rattle.tpl_draft.specs.Ids.{task_number}
use Rattle.tpl_fast.specs.Due.{is_told, Keep}
use Rattle.tpl_fast.proofs.links.tell_each.Given as goal

abbrev pub invariant-loop-other : goal.invariant-loop-other
invariant-loop-other l = record {
  count : length l.lists.items ≡ length l.fn.lists.items;
  told : (x : ℕ) → mem x (map task_number (take l.other-index l.others)) ≡ true → x < length l.fn.lists.items → is_told l.lists.items x l.task.0 ≡ true;
  kept : Keep l.fn.lists.items l.lists.items;
}
