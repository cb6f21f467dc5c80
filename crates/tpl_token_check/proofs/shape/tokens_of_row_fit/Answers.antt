use Rattle.std.proofs.Common.{◌≡◌, ◌&&◌, length, nat_lt, ◌∙◌}
use Rattle.tpl_laws.specs.TokenVerdict.{has_tokens}
use Rattle.tpl_token_check.proofs.ShapeTests.{tokens_test}
use Rattle.tpl_token_check.proofs.shape.tokens_of_row_fit.Goals as goal

pub returns : goal.returns
returns c =
    let g = c.args.graph.now.graph in
    let row = c.args.row.now in
    let asked : c.is_subset-asked.result ≡ has_tokens g row.asked =
    tokens_test c.is_subset-asked.result c.asked.result c.args.all row.asked (λ k. nat_lt k (length g.tokens)) c.is_subset-asked.ensures.0 c.is_subset-asked.ensures.1 c.asked.ensures.members c.requires in
    let asks : c.is_subset-asks.result ≡ has_tokens g row.asks =
    tokens_test c.is_subset-asks.result c.asks.result c.args.all row.asks (λ k. nat_lt k (length g.tokens)) c.is_subset-asks.ensures.0 c.is_subset-asks.ensures.1 c.asks.ensures.members c.requires in
    c.both.ensures ∙ (λ i. asked i && asks i)
