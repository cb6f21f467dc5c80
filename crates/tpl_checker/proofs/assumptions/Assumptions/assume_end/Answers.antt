use Rattle.tpl_checker.proofs.Assuming.{with_left}
use Rattle.tpl_checker.proofs.assumptions.Assumptions.assume_end.Goals as goal

pub returns : goal.returns
returns c = with_left c.args.self.now c.keeping-self.result c.args.task.0 c.args.status c.only.result c.only.ensures c.keeping-self.ensures
