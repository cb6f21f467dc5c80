use Rattle.std.proofs.Common.{refl}
use Rattle.tpl_token_check.proofs.RowLemmas.{row_put}
use Rattle.tpl_token_check.proofs.rows.Rows.put.Goals as goal

pub returns : goal.returns
returns c g a = row_put c.args.self.now _ c.args.task.0 c.args.row c.end_of_row.result refl refl c.end_of_row.ensures g a
