use Rattle.std.proofs.Common.{ap, ◌∙◌}
use Rattle.tpl_model.specs.Finals.{has}
use Rattle.tpl_model.specs.Certificate.{row, plain}
use Rattle.tpl_laws.specs.RowTests.{each_end, implies}
use Rattle.tpl_token_leaf.specs.Leaf.{rows_in}
use Rattle.tpl_token_leaf.specs.LeafRules.{kind_left_in}
use Rattle.tpl_token_leaf.proofs.EndLemmas.{demands}
use Rattle.tpl_token_leaf.proofs.ends.ends.Goals as goal

pub returns : goal.returns
returns c =
    c.ends_only_in.ensures
    ∙ (ap (λ e. each_end (λ f. implies (has c.demanded.result f) (has e f))) (c.ends.ensures ∙ ap (λ r. r.ends) c.row.ensures)
    ∙ ((λ i. each_end (λ f. implies (c.demanded.ensures f i) (has (row (plain (rows_in c.args.leaf.now)) c.args.task.0).ends f)))
    ∙ demands c.args.leaf.now c.args.task.0 c.args.ways.now c.requires.ways (kind_left_in c.args.leaf.now c.args.task.0)))
