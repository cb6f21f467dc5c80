use Rattle.tpl_model.specs.Knowledge.{IsSettled, IsRequested}
use Rattle.tpl_paths.specs.Facts.{has_fact}
use Rattle.tpl_token_leaf.proofs.Rows.{facts_test}
use Rattle.tpl_token_leaf.proofs.leaf.Leaf.ends_within.Goals as goal

pub returns : goal.returns
returns c test = facts_test _ _ _ (has_fact c.ends_with.result) (has_fact c.args.limit.now) test c.is_subset.ensures.0 c.is_subset.ensures.1 (λ x. c.ends_with.ensures (IsSettled x)) (λ k. c.ends_with.ensures (IsRequested k))
