use Rattle.std.proofs.Common.{◌≡◌, ℕ, ◌<◌, ◌≤◌, Some, [], vec_len}
use Rattle.std.specs.Prelude.{slice_get, vec_capacity}
use Rattle.tpl_fast.specs.Marks.{mark_at}
use Rattle.tpl_fast.proofs.marks.unmarked.Given as goal

abbrev pub invariant-loop : goal.invariant-loop
invariant-loop l = record {
  count : vec_len l.marks ≡ l.counter;
  room : l.fn.count ≤ vec_capacity l.marks;
  each : (t : ℕ) → t < l.counter → slice_get l.marks.items t ≡ Some (mark_at [] t);
}
