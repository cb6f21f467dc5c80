-- Sets of tokens as numbers, whose bits are set where the tokens are members.
use Rattle.std.specs.Prelude.{ℕ, Bool, ◌==◌}
use Rattle.std.specs.Int.{bit_at}
use Rattle.tpl_paths.specs.declared.token_set.TokenSet.{TokenSet}

-- the token is in the set
abbrev pub has_token : TokenSet → ℕ → Bool
has_token s k = bit_at s.bits k == 1

-- the set without members
abbrev pub no_tokens : TokenSet
no_tokens = record { bits = 0 }
