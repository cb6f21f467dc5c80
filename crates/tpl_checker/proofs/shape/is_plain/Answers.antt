use Rattle.tpl_checker.proofs.ShapeLemmas.{plain_tested}
use Rattle.tpl_checker.proofs.shape.is_plain.Goals as goal

pub returns : goal.returns
returns c = plain_tested c.is_plain.result c.args.row.now c.is_plain.ensures
