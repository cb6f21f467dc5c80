use Rattle.tpl_each.proofs.Coming.{skipped}
use Rattle.tpl_each.proofs.ahead.Ahead.skip.Goals as goal

pub returns : goal.returns
returns c = skipped c.args.self.now.block c.args.self.now.start c.args.self.now.end c.args.count
