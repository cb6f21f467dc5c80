use Rattle.tpl_checker.proofs.Assuming.{with_kept_left}
use Rattle.tpl_checker.proofs.assumptions.Assumptions.keep_ends.Goals as goal

pub returns : goal.returns
returns c = with_kept_left c.args.self.now c.keeping-self.result c.args.task.0 c.args.ends c.keeping-self.ensures
