use Rattle.std.proofs.Common.{ap, ◌∙◌}
use Rattle.tpl_model.specs.Members.{mem}
use Rattle.tpl_token_leaf.proofs.leaf.Leaf.asked.Goals as goal

pub returns : goal.returns
returns c k = c.asked.ensures.members k ∙ ap (λ r. mem k r.asked) c.whole_row.ensures
