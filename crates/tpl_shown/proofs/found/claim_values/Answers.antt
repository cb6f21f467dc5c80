use Rattle.serde_json.specs.Data.{string}
use Rattle.serde_json.specs.View.{view}
use Rattle.serde_json.specs.declared.value.Value.{String}
use Rattle.tpl_reasons.specs.Words.{claim_words}
use Rattle.tpl_json.proofs.Passes.{mapped_more}
use Rattle.tpl_shown.proofs.Values.{text_value}
use Rattle.tpl_shown.proofs.found.claim_values.Goals as goal

pub loop-claim-preserved : goal.loop-claim-preserved
loop-claim-preserved c =
    let text = c.in_ok-words.words in
    rw c.in_ok-push.ensures.items
    (mapped_more view string (claim_words c.args.graph.now.names) c.loop-claim.values.items c.args.claims.now c.loop-claim.claim-index c.claim-item.result (String text) c.loop-claim-test.true c.loop-claim.invariant (rw (← c.claim-item.is) (text_value text _ c.in_ok-words.ensures)))
