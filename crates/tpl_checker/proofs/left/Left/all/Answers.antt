use Rattle.tpl_checker.proofs.Assuming.{all_left}
use Rattle.tpl_checker.proofs.left.Left.all.Goals as goal

pub returns : goal.returns
returns c = all_left _ c.empty.ensures c.empty-2.ensures c.empty-3.ensures
