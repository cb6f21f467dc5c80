use Rattle.std.proofs.Common.{Option, ℕ, ap, ◌∙◌}
use Rattle.tpl_model.specs.Rules.{token_requested_by}
use Rattle.tpl_paths.specs.TokenSet.{has_token}
use Rattle.tpl_token_leaf.proofs.begins.own_among.Goals as goal

pub returns-in-Some : goal.returns-in-Some
returns-in-Some c = c.contains.ensures ∙ ap (λ (o : Option ℕ). token_requested_by o (has_token c.args.tokens)) c.in-Some.ensures

pub returns-in-None : goal.returns-in-None
returns-in-None c = ap (λ (o : Option ℕ). token_requested_by o (has_token c.args.tokens)) c.in-None.ensures
