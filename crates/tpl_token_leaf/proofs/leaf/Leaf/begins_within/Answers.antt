use Rattle.tpl_model.specs.Knowledge.{IsSettled, IsRequested}
use Rattle.tpl_paths.specs.Facts.{has_fact}
use Rattle.tpl_token_leaf.proofs.Rows.{facts_test}
use Rattle.tpl_token_leaf.proofs.leaf.Leaf.begins_within.Goals as goal

pub returns : goal.returns
returns c test = facts_test _ _ _ (has_fact c.begins_with.result) (has_fact c.args.limit.now) test c.is_subset.ensures.0 c.is_subset.ensures.1 (λ x. c.begins_with.ensures (IsSettled x)) (λ k. c.begins_with.ensures (IsRequested k))
