use Rattle.std.proofs.Common.{◌≡◌, ap, ◌∙◌}
use Rattle.tpl_model.specs.Members.{mem}
use Rattle.tpl_model.specs.Knowledge.{Fact}
use Rattle.tpl_paths.specs.Facts.{has_fact}
use Rattle.tpl_model.specs.TokenRules.{ends_with}
use Rattle.tpl_token_leaf.specs.Leaf.{rows_in}
use Rattle.tpl_token_leaf.proofs.Rows.{by_fact}
use Rattle.tpl_token_leaf.proofs.leaf.Leaf.ends_with.Goals as goal

pub returns : goal.returns
returns c =
    by_fact (λ (f : Fact). has_fact (record { tasks = c.copy.result; tokens = c.asks.result }) f ≡ ends_with (rows_in c.args.self.now) c.args.task.0 f)
    (λ x. ap (mem x) (c.copy.ensures.same ∙ (c.past.ensures ∙ ap (λ r. r.past) c.row.ensures)))
    (λ k. c.asks.ensures k)
