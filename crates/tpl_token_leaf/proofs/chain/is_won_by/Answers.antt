use Rattle.std.proofs.Common.{ap, ◌∙◌}
use Rattle.tpl_model.specs.TokenRules.{with_winners}
use Rattle.tpl_laws.specs.TokenTests.{is_won_by}
use Rattle.tpl_token_leaf.specs.Leaf.{assumed_in}
use Rattle.tpl_token_leaf.proofs.chain.is_won_by.Goals as goal

pub returns-in-Any : goal.returns-in-Any
returns-in-Any c = c.is_only_winner.ensures ∙ ap (λ k. is_won_by (with_winners ((assumed_in c.args.leaf.now).wins c.args.task.0) k) c.args.argument.0) c.in-Any.ensures.kind
