use Rattle.std.proofs.Common.{◌≡◌, ◌++◌}
use Rattle.std.specs.Prelude.{string_bytes}
use Rattle.tpl_draw.specs.Below.{below}
use Rattle.tpl_draw.specs.Picture.{task_lines}
use Rattle.tpl_draw.proofs.draw.add_tasks.Given as goal

abbrev pub invariant-loop-number : goal.invariant-loop-number
invariant-loop-number l = string_bytes l.text ≡ string_bytes l.fn.text ++ below (task_lines l.language l.graph l.shown) l.number
