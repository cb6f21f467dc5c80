use Rattle.std.proofs.Common.{◌≡◌, get_or}
use Rattle.tpl_model.specs.Certificate.{row, plain}
use Rattle.tpl_draw.specs.Endings.{each_task, either, no_ends}
use Rattle.tpl_draw.proofs.token_ending.ends_in_rows.Given as goal

abbrev pub invariant-loop-task : goal.invariant-loop-task
invariant-loop-task l = l.found.items ≡ each_task (λ t. either (row (plain l.rows) t).ends (get_or l.others t no_ends)) l.task
