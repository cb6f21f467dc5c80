use Rattle.std.proofs.Common.{ap, sym, ◌∙◌}
use Rattle.tpl_model.specs.Members.{mem}
use Rattle.tpl_trees.proofs.TokenLists.{mem-tokens_in}
use Rattle.tpl_trees.proofs.row.Row.asked.Goals as goal

pub returns-clause-members : goal.returns-clause-members
returns-clause-members c k = sym (mem-tokens_in c.self.inside.asked c.limit_law.ensures k) ∙ ap (λ r. mem k r.asked) c.self.view_is
