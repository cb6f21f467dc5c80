use Rattle.tpl_token_leaf.proofs.WayLemmas.{joined_ways}
use Rattle.tpl_token_leaf.proofs.ways.Ways.join.Goals as goal

pub returns : goal.returns
returns c holds e d p q = joined_ways holds _ e d c.args.self c.args.other p q c.union.ensures c.common.ensures
