use Rattle.std.proofs.Common.{ap, ◌∙◌}
use Rattle.tpl_trees.specs.Coding.{tokens_in}
use Rattle.tpl_trees.proofs.TokenLists.{no_tokens_in}
use Rattle.tpl_trees.proofs.row.Row.without_tokens.Goals as goal

pub returns-clause-asked : goal.returns-clause-asked
returns-clause-asked c = ap tokens_in c.empty.ensures ∙ no_tokens_in

pub returns-clause-asks : goal.returns-clause-asks
returns-clause-asks c = ap tokens_in c.empty-2.ensures ∙ no_tokens_in
