use Rattle.tpl_token_leaf.proofs.WayLemmas.{not_left}
use Rattle.tpl_token_leaf.proofs.ways.Ways.only_if.Goals as goal

pub returns-else-test : goal.returns-else-test
returns-else-test c holds e p = not_left holds c.none.result c.args.test e c.if-test.false (c.none.ensures holds)
