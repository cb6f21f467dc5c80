use Rattle.tpl_checker.proofs.Basics.{subset_test}
use Rattle.tpl_checker.proofs.rows.within.Goals as goal

pub returns : goal.returns
returns c test same = subset_test c.is_subset.result c.args.set.now c.args.allowed.now test c.is_subset.ensures.subset.0 c.is_subset.ensures.subset.1 same
