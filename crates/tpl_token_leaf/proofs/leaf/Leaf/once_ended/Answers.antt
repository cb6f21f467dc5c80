use Rattle.std.proofs.Common.{◌≡◌, ◌||◌, nat_eq, ap, ◌∙◌}
use Rattle.tpl_model.specs.Knowledge.{Fact, IsSettled, IsRequested}
use Rattle.tpl_paths.specs.Facts.{has_fact}
use Rattle.tpl_model.specs.TokenRules.{once_ended}
use Rattle.tpl_token_leaf.specs.Leaf.{rows_in}
use Rattle.tpl_token_leaf.proofs.Rows.{by_fact}
use Rattle.tpl_token_leaf.proofs.leaf.Leaf.once_ended.Goals as goal

pub returns : goal.returns
returns c =
    by_fact (λ (f : Fact). has_fact (record { tasks = c.insert.new.self; tokens = c.ends_with-facts.result.tokens }) f ≡ once_ended (rows_in c.args.self.now) c.args.task.0 f)
    (λ x. c.insert.ensures.members x ∙ ap (λ z. nat_eq x c.args.task.0 || z) (c.ends_with-facts.ensures (IsSettled x)))
    (λ k. c.ends_with-facts.ensures (IsRequested k))
