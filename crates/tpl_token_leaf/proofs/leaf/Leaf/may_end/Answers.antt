use Rattle.std.proofs.Common.{ap, ◌∙◌}
use Rattle.tpl_model.specs.Finals.{has}
use Rattle.tpl_laws.specs.RowTests.{some_end}
use Rattle.tpl_token_leaf.proofs.leaf.Leaf.may_end.Goals as goal

pub returns : goal.returns
returns c = c.some_end.ensures ∙ ap (λ e. some_end (has e)) (c.ends.ensures ∙ ap (λ r. r.ends) c.row.ensures)
