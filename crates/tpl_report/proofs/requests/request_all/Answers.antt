use Rattle.std.proofs.Common.{◌∙◌, ◌<◌, arith, length, subst}
use Rattle.std.proofs.lemmas.List.{get_or_default}
use Rattle.std.specs.Prelude.{slice_index_or}
use Rattle.std.proofs.lemmas.List.Elements.{AllWithin-more, All-map}
use Rattle.tpl_draft.specs.Ids.{token_number}
use Rattle.tpl_model.specs.declared.ids.TokenId.{TokenId}
use Rattle.tpl_report.specs.Made.{HasAsked}
use Rattle.tpl_report.proofs.AskLemmas.{asked_on}
use Rattle.tpl_report.proofs.requests.request_all.Goals as goal

pub loop-token-preserved : goal.loop-token-preserved
loop-token-preserved g c =
    let was = c.loop-token.invariant in
    let one = c.in_ok-request_one.ensures in
    let n = c.args.graph.now.graph in
    let within : c.loop-token.token-index < length c.args.tokens.now = omega (arith, c.loop-token-test.true, c.loop-token.auto.token-index-end) in
    record {
      pass = one.pass;
      actor = one.actor ∙ was.actor;
      asked = AllWithin-more (λ (k : TokenId). HasAsked n c.request_one.new.outsider.seat.mine k.0) c.args.tokens.now 0 c.loop-token.token-index
          (λ k d low lt. asked_on n c.loop-token.outsider.seat.mine c.request_one.new.outsider.seat.mine (slice_index_or c.args.tokens.now k d).0 one.list (was.asked k d low lt)) (λ d. subst (λ (k : TokenId). HasAsked n c.request_one.new.outsider.seat.mine k.0) (get_or_default c.args.tokens.now c.loop-token.token-index _ d within) one.asked);
    }

pub returns-clause-asked : goal.returns-clause-asked
returns-clause-asked g c =
    All-map (HasAsked c.args.graph.now.graph c.loop-token.outsider.seat.mine) token_number c.args.tokens.now
    (λ k d lt. c.loop-token.invariant.asked k d (omega arith) (omega (arith, lt, c.loop-token-test.false, c.loop-token.auto.token-index-end)))
