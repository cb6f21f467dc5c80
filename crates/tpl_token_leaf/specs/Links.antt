-- Tokens that are requested with others, in memory.
use Rattle.std.specs.Prelude.{◌≡◌, ℕ, ◌<◌, List, length, slice_index_or}
use Rattle.tpl_model.specs.Graph.{TaskGraph}
use Rattle.tpl_model.specs.TokenRules.{linked}
use Rattle.tpl_paths.specs.declared.token_set.TokenSet.{TokenSet}
use Rattle.tpl_paths.specs.TokenSet.{has_token, no_tokens}

-- by each token of the graph those that are requested with it
abbrev pub AreLinks : TaskGraph → List TokenSet → Type 0
AreLinks g sets = (k j : ℕ) → k < length g.tokens → has_token (slice_index_or sets k no_tokens) j ≡ linked g k j
