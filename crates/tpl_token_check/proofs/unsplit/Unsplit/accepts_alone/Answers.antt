use Rattle.std.proofs.Common.{◌≡◌, ◌∙◌, ◌↔◌, [], IsTrue, true, subst}
use Rattle.tpl_model.specs.declared.claim.Property.{Property}
use Rattle.tpl_model.specs.declared.ids.TaskId.{TaskId}
use Rattle.tpl_model.specs.Graph.{TaskGraph}
use Rattle.tpl_model.specs.Certificate.{LeastLeaf}
use Rattle.tpl_model.specs.TokenRules.{LeafAssumed, assumed_with_tokens}
use Rattle.tpl_laws.specs.TokenTrees.{AcceptsTokenTree}
use Rattle.tpl_token_leaf.specs.Leaf.{leaf_assumed}
use Rattle.tpl_token_check.specs.Unsplit.{graph_under}
use Rattle.tpl_token_check.proofs.unsplit.Unsplit.accepts_alone.Goals as goal

pub returns : goal.returns
returns c =
    let g = graph_under c.args.self.now in
    let claim = c.args.claim.now in
    let check = c.new-check.result in
    let b = c.in_ok-accepted.accepted in
    let graph : check.graph.now.graph ≡ g = λ i. (c.new-check.ensures.graph i).graph in
    let by_graph = subst (λ (h : TaskGraph). IsTrue b ↔ AcceptsTokenTree h check.property (leaf_assumed c.assumed_for-assumed.result []) LeastLeaf) graph c.in_ok-accepted.ensures in
    let assumed : leaf_assumed c.assumed_for-assumed.result [] ≡ assumed_with_tokens g claim = λ i. record { assumed = c.assumed_for-assumed.ensures i; wins = λ n x. true } in
    let by_assumed = subst (λ (k : LeafAssumed). IsTrue b ↔ AcceptsTokenTree g check.property k LeastLeaf) assumed by_graph in
    let there = subst (λ (p : Property TaskId). IsTrue b ↔ AcceptsTokenTree g p (assumed_with_tokens g claim) LeastLeaf) (c.new-check.ensures.property ∙ c.body.ensures) by_assumed in
    (λ e. (there.0 e, tt), λ a. there.1 a.0)
