use Rattle.std.proofs.Common.{◌≡◌, ap, ◌∙◌}
use Rattle.tpl_model.specs.Members.{mem}
use Rattle.tpl_model.specs.Knowledge.{Fact}
use Rattle.tpl_paths.specs.Facts.{has_fact}
use Rattle.tpl_model.specs.TokenRules.{begins_with}
use Rattle.tpl_token_leaf.specs.Leaf.{rows_in}
use Rattle.tpl_token_leaf.proofs.Rows.{by_fact}
use Rattle.tpl_token_leaf.proofs.leaf.Leaf.begins_with.Goals as goal

pub returns : goal.returns
returns c =
    by_fact (λ (f : Fact). has_fact (record { tasks = c.copy.result; tokens = c.asked.result }) f ≡ begins_with (rows_in c.args.self.now) c.args.task.0 f)
    (λ x. ap (mem x) (c.copy.ensures.same ∙ (c.before-2.ensures ∙ ap (λ r. r.before) c.row.ensures)))
    (λ k. c.asked.ensures k)
