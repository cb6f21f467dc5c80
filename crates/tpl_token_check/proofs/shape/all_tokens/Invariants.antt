use Rattle.std.proofs.Common.{◌≡◌, ℕ, nat_lt}
use Rattle.tpl_paths.specs.TokenSet.{has_token}
use Rattle.tpl_token_check.proofs.shape.all_tokens.Given as goal

abbrev pub invariant-loop-token : goal.invariant-loop-token
invariant-loop-token l = (k : ℕ) → has_token l.all k ≡ nat_lt k l.token
