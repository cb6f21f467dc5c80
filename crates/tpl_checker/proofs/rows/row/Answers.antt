use Rattle.std.proofs.Common.{◌∙◌, ap}
use Rattle.tpl_checker.proofs.RowLemmas.{row_at}
use Rattle.tpl_checker.proofs.rows.row.Goals as goal

pub returns : goal.returns
returns c = c.row.ensures ∙ (ap (λ r. r.row) c.index-rows-task.is ∙ row_at c.args.rows.now c.args.task.0 c.index-rows-task.result c.requires)
