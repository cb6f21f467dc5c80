use Rattle.std.proofs.Common.{◌≡◌, drop, map}
use Rattle.tpl_draft.specs.Ids.{token_number}
use Rattle.tpl_model.specs.Graph.{some_in}
use Rattle.tpl_paths.specs.TokenSet.{has_token}
use Rattle.tpl_token_leaf.proofs.linking.has_some.Given as goal

abbrev pub invariant-loop-token : goal.invariant-loop-token
invariant-loop-token l = some_in (has_token l.set) (map token_number l.tokens) ≡ some_in (has_token l.set) (map token_number (drop l.token-index l.tokens))
