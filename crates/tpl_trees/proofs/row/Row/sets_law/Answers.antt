use Rattle.std.proofs.Common.{ap, subst}
use Rattle.tpl_trees.specs.Sets.{IsSet}
use Rattle.tpl_trees.proofs.TokenLists.{token_set}
use Rattle.tpl_trees.proofs.row.Row.sets_law.Goals as goal

pub returns : goal.returns
returns c = (
  subst (IsSet 32) (ap (λ r. r.asked) c.self.view_is) (token_set c.self.inside.asked c.limit_law.ensures),
  subst (IsSet 32) (ap (λ r. r.asks) c.self.view_is) (token_set c.self.inside.asks c.limit_law-2.ensures),
)
