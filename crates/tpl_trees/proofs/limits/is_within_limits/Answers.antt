use Rattle.tpl_trees.proofs.WithinLimits.{then_tested, else_tested}
use Rattle.tpl_trees.proofs.limits.is_within_limits.Goals as goal

pub returns-then-is_no_higher-clause-test : goal.returns-then-is_no_higher-clause-test
returns-then-is_no_higher-clause-test c = then_tested c.is_no_higher.result c.has_short_chains.result c.args.tree.now c.is_no_higher.ensures c.has_short_chains.ensures c.if-is_no_higher.true

pub returns-else-is_no_higher-clause-test : goal.returns-else-is_no_higher-clause-test
returns-else-is_no_higher-clause-test c = else_tested c.is_no_higher.result c.args.tree.now c.is_no_higher.ensures c.if-is_no_higher.false
