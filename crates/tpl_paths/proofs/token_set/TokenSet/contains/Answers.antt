use Rattle.std.proofs.Common.{◌^◌, ◌<◌, sym, ◌∙◌, rules}
use Rattle.std.proofs.lemmas.Bool.{le-ltb}
use Rattle.tpl_paths.proofs.TokenBits.{none_above}
use Rattle.tpl_paths.proofs.token_set.TokenSet.contains.Goals as goal

pub returns-else-at-lt-MOST_TOKENS : goal.returns-else-at-lt-MOST_TOKENS
returns-else-at-lt-MOST_TOKENS c =
    let fits : c.args.self.bits < 2 ^ 32 = search rules in
    le-ltb c.args.token.0 32 c.if-at-lt-MOST_TOKENS.false ∙ sym (none_above c.args.self.bits c.args.token.0 fits c.if-at-lt-MOST_TOKENS.false)
