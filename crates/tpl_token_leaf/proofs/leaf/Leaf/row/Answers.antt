use Rattle.std.proofs.Common.{ap, ◌∙◌}
use Rattle.tpl_token_leaf.specs.Leaf.{rows_in}
use Rattle.tpl_checker.proofs.Basics.{plain_row}
use Rattle.tpl_token_leaf.proofs.leaf.Leaf.row.Goals as goal

pub returns : goal.returns
returns c = c.row.ensures ∙ (ap (λ r. r.row) c.whole_row.ensures ∙ plain_row (rows_in c.args.self.now) c.args.task.0)
