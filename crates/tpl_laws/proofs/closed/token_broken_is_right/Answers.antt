use Rattle.tpl_laws.proofs.TokensDecided.{token_broken_lem}
use Rattle.tpl_laws.proofs.closed.token_broken_is_right.Goals as goal

pub returns : goal.returns
returns c g l rows t valid = token_broken_lem g l rows t valid c.path_laws.ensures
