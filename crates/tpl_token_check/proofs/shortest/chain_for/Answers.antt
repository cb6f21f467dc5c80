use Rattle.std.proofs.Common.{◌≡◌, if◌then◌else◌, List, ℕ, [], map, ap, sym, subst, ◌∙◌}
use Rattle.std.specs.Prelude.{IfOk}
use Rattle.tpl_draft.specs.Ids.{task_number}
use Rattle.tpl_laws.specs.LeastRows.{shortest_chain}
use Rattle.tpl_token_leaf.specs.Leaf.{graph_of, assumed_in}
use Rattle.tpl_token_check.proofs.LevelLemmas.{chain_is}
use Rattle.tpl_token_check.proofs.shortest.chain_for.Goals as goal

pub returns-then-is_observed : goal.returns-then-is_observed
returns-then-is_observed c =
    let g = graph_of c.args.leaf.now in
    let l = assumed_in c.args.leaf.now in
    let t = c.args.task.0 in
    subst (λ (xs : List ℕ). IfOk c.shortest_chain.result (λ v. map task_number v.items ≡ xs))
    (sym (chain_is g l c.args.property t ∙ ap (λ b. if b then shortest_chain g l t else []) (sym c.is_observed.ensures ∙ c.if-is_observed.true)))
    c.shortest_chain.ensures

pub returns-else-is_observed : goal.returns-else-is_observed
returns-else-is_observed c =
    let g = graph_of c.args.leaf.now in
    let l = assumed_in c.args.leaf.now in
    let t = c.args.task.0 in
    ap (map task_number) c.new.ensures.items ∙ sym (chain_is g l c.args.property t ∙ ap (λ b. if b then shortest_chain g l t else []) (sym c.is_observed.ensures ∙ c.if-is_observed.false))
