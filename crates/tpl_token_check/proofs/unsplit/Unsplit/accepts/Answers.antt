use Rattle.std.proofs.Common.{◌≡◌, ◌↔◌, ◌∷◌, [], Bool, IsTrue, subst, sym}
use Rattle.tpl_model.specs.declared.claim.Property.{Property}
use Rattle.tpl_model.specs.declared.ids.TaskId.{TaskId}
use Rattle.tpl_model.specs.Certificate.{own_quiet, LeastLeaf}
use Rattle.tpl_laws.specs.LeastRows.{least_rows}
use Rattle.tpl_laws.specs.TokenTests.{token_proves}
use Rattle.tpl_laws.specs.TokenTrees.{AcceptsWithTokens}
use Rattle.tpl_token_leaf.specs.Leaf.{leaf_assumed}
use Rattle.tpl_token_check.specs.Unsplit.{HasNoChain, graph_under}
use Rattle.tpl_token_check.proofs.UnsplitLemmas.{claim_accepted}
use Rattle.tpl_token_check.proofs.unsplit.Unsplit.accepts.Goals as goal

pub returns : goal.returns
returns c =
    let u = c.args.self.now in
    let g = graph_under u in
    let claim = c.args.claim.now in
    let is = c.body-property.ensures in
    let chain = subst (λ (p : Property TaskId). HasNoChain p) is (c.needs_own_rows.ensures.chain c.if-needs_own_rows.false) in
    let own = subst (λ (p : Property TaskId). own_quiet g p ≡ []) is (c.needs_own_rows.ensures.own c.if-needs_own_rows.false) in
    let l = leaf_assumed u.narrowed [] in
    let proves = subst (λ (p : Property TaskId). c.proves-proves.result ≡ token_proves g l (least_rows g l p) p) is c.proves-proves.ensures in
    subst (λ (b : Bool). IsTrue b ↔ AcceptsWithTokens g (claim ∷ []) (LeastLeaf ∷ [])) (sym c.both.ensures)
    (claim_accepted u claim c.proves-proves.result c.valid_law.ensures.graph c.token_leaf_is_right.ensures c.requires.unsplit chain own c.requires.given proves)
