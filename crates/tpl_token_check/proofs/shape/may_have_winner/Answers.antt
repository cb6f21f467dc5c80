use Rattle.std.proofs.Common.{ap, ◌∙◌}
use Rattle.tpl_laws.specs.TokenVerdict.{may_have_winner}
use Rattle.tpl_token_check.proofs.shape.may_have_winner.Goals as goal

pub returns-in-Any : goal.returns-in-Any
returns-in-Any c = c.is_member.ensures ∙ ap (λ k. may_have_winner k c.args.argument.0) c.in-Any.ensures.kind
