use Rattle.std.proofs.Common.{ap, ◌∙◌}
use Rattle.tpl_model.specs.Members.{mem}
use Rattle.tpl_token_leaf.proofs.leaf.Leaf.asks.Goals as goal

pub returns : goal.returns
returns c k = c.asks.ensures.members k ∙ ap (λ r. mem k r.asks) c.whole_row.ensures
