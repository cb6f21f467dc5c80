use Rattle.std.proofs.Common.{◌≡◌, ◌<◌, ℕ, inl, inr, length, ap, sym, subst, ◌∙◌, get_or-set_other, get_or-set_same, slice_index_or, slice_set, arith}
use Rattle.std.proofs.lemmas.Bool.{cases_eq}
use Rattle.std.proofs.lemmas.List.{length-set}
use Rattle.tpl_paths.specs.TokenSet.{has_token, no_tokens}
use Rattle.tpl_model.specs.TokenRules.{linked}
use Rattle.tpl_token_leaf.proofs.linking.links.Goals as goal

pub loop-token-preserved : goal.loop-token-preserved
loop-token-preserved c =
    let g = c.args.graph.now.graph in
    let i = c.loop-token.token in
    let sets = c.loop-token.sets in
    let within : i < length sets = omega (arith, c.loop-token.invariant.0) in (
      length-set sets i c.links_of.result ∙ c.loop-token.invariant.0,
      λ k j lt. elim (cases_eq k i) [
        | inl same ↦
            subst (λ (n : ℕ). has_token (slice_index_or (slice_set sets i c.links_of.result) n no_tokens) j ≡ linked g n j) (sym same)
            (ap (λ z. has_token z j) (get_or-set_same sets i c.links_of.result no_tokens within) ∙ c.links_of.ensures j)
        | inr apart ↦ let below : k < i = omega arith in ap (λ z. has_token z j) (get_or-set_other sets i k c.links_of.result no_tokens apart) ∙ c.loop-token.invariant.1 k j below
      ],
    )
