use Rattle.std.proofs.Common.{Option, ℕ, Some, ap, sym, subst, ◌∙◌}
use Rattle.tpl_model.specs.Valid.{OwnToken}
use Rattle.tpl_model.specs.Rules.{token_requested_by}
use Rattle.tpl_model.specs.TokenRules.{linked}
use Rattle.tpl_paths.specs.TokenSet.{has_token}
use Rattle.tpl_paths.proofs.TokenBits.{none_set}
use Rattle.tpl_token_leaf.specs.Leaf.{graph_of}
use Rattle.tpl_token_leaf.proofs.leaf.Leaf.linked_with_own.Goals as goal

pub returns-in-None : goal.returns-in-None
returns-in-None c j =
    let g = graph_of c.args.self.now in
    ap (λ s. has_token s j) c.empty.ensures ∙ (none_set j ∙ ap (λ (o : Option ℕ). token_requested_by o (λ k. linked g k j)) c.in-None.ensures)

pub returns-in-Some : goal.returns-in-Some
returns-in-Some c j =
    let g = graph_of c.args.self.now in
    let k = c.in-Some.token.0 in
    let own : OwnToken g (Some k) = subst (λ (o : Option ℕ). OwnToken g o) (sym c.in-Some.ensures) (c.valid_law.ensures.graph.each c.args.owner.0 c.requires.task).own_token in
    ap (λ s. has_token s j) c.linked_with.ensures ∙ (c.requires.leaf.linked k j own ∙ ap (λ (o : Option ℕ). token_requested_by o (λ i. linked g i j)) c.in-Some.ensures)
