use Rattle.std.proofs.Common.{◌≡◌, ◌<◌, ℕ, length, slice_index_or}
use Rattle.tpl_paths.specs.TokenSet.{has_token, no_tokens}
use Rattle.tpl_model.specs.TokenRules.{linked}
use Rattle.tpl_token_leaf.proofs.linking.links.Given as goal

abbrev pub invariant-loop-token : goal.invariant-loop-token
invariant-loop-token l = (length l.sets ≡ 32) × ((k j : ℕ) → k < l.token → has_token (slice_index_or l.sets k no_tokens) j ≡ linked l.graph.graph k j)
