use Rattle.std.proofs.Common.{◌≡◌, ◌∙◌}
use Rattle.tpl_model.specs.Certificate.{plain}
use Rattle.tpl_model.specs.TokenRules.{narrowed}
use Rattle.tpl_laws.specs.Verdict.{rows_fit}
use Rattle.tpl_laws.specs.TokenTests.{token_leaf_fault}
use Rattle.tpl_laws.specs.LeastRows.{least_rows}
use Rattle.tpl_token_leaf.specs.Leaf.{leaf_assumed}
use Rattle.tpl_token_leaf.specs.Winners.{all_leave}
use Rattle.tpl_token_check.specs.Case.{assumed_by, graph_by}
use Rattle.tpl_token_check.specs.Check.{graph_in}
use Rattle.tpl_token_check.proofs.LeastFits.{least_rows_fit}
use Rattle.tpl_token_check.proofs.tree.least_leaf_fault.Goals as goal

pub leaf_fault-requires-clause-ids : goal.leaf_fault-requires-clause-ids
leaf_fault-requires-clause-ids c =
    let case = c.new-case.result in
    let same = c.leaf.ensures.rows ∙ c.in_ok-rows.ensures.same in
    (λ i. rows_fit (c.leaf.ensures.graph i) (plain (same i))) ∙ (least_rows_fit (graph_by case) (assumed_by case) case.property).ids

pub returns : goal.returns
returns c =
    let g = graph_in c.args.check.now in
    let p = c.args.check.now.property in
    let graph = c.leaf.ensures.graph ∙ c.new-case.ensures.graph in
    let narrow : leaf_assumed c.narrowed-narrowed.result c.args.winners.now ≡ narrowed g (leaf_assumed c.args.assumed.now c.args.winners.now) =
    λ i. record { assumed = c.narrowed-narrowed.ensures i; wins = all_leave c.args.winners.now } in
    let by_case = c.new-case.ensures.assumed ∙ narrow in
    let assumed = c.leaf.ensures.assumed ∙ by_case in
    let rows = c.leaf.ensures.rows ∙ (c.in_ok-rows.ensures.same ∙ (λ i. least_rows (c.new-case.ensures.graph i) (by_case i) (c.new-case.ensures.property i))) in
    c.leaf_fault.ensures ∙ (λ i. token_leaf_fault (graph i) p (assumed i) (rows i))
