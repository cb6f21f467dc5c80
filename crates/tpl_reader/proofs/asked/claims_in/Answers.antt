use Rattle.std.proofs.Common.{◌+◌, map, take, refl}
use Rattle.std.proofs.lemmas.Result.{err_from_is_err_and}
use Rattle.tpl_parts.specs.SeenClaims.{claim_of}
use Rattle.tpl_json.specs.Passes.{each_from}
use Rattle.tpl_reader.specs.Asked.{claim_behind, claim_among}
use Rattle.tpl_json.proofs.Passes.{each_more, each_done, each_fails}
use Rattle.tpl_json.proofs.Reading.{yields_number}
use Rattle.tpl_reader.proofs.Asking.{among}
use Rattle.tpl_reader.proofs.asked.claims_in.Goals as goal

pub loop-index-init : goal.loop-index-init
unfolding each_from
loop-index-init c = rw c.new-asked.ensures.items refl

pub returns-in_err-one : goal.returns-in_err-one
returns-in_err-one c =
    let p = err_from_is_err_and c.from_residual.result c.from_residual.ensures.1 in
    let claims = c.args.claims.now in
    let asks = claim_behind c.args.graph.now (map claim_of (take c.loop-index.index claims)) (claim_of c.index-claims-index.result) in
    rw (p.1, p.2) (each_fails (claim_among c.args.graph.now (map claim_of claims)) claim_of claims c.loop-index.index c.index-claims-index.result c.loop-index.asked.items c.in_err-one.field-0.0 c.loop-index-test.true c.loop-index.invariant
    (rw (← c.index-claims-index.is, among c.args.graph.now claim_of claims c.loop-index.index (claim_of c.index-claims-index.result) asks refl) (yields_number (λ c. c) c.claim_behind.result asks (c.loop-index.index + 1) _ c.in_err-one.ensures c.claim_behind.ensures)))

pub loop-index-preserved : goal.loop-index-preserved
loop-index-preserved c =
    let claims = c.args.claims.now in
    let asks = claim_behind c.args.graph.now (map claim_of (take c.loop-index.index claims)) (claim_of c.index-claims-index.result) in
    rw c.in_ok-push.ensures.items (each_more (claim_among c.args.graph.now (map claim_of claims)) claim_of claims c.loop-index.index c.index-claims-index.result c.loop-index.asked.items c.in_ok-one.one c.loop-index-test.true c.loop-index.invariant
    (rw (← c.index-claims-index.is, among c.args.graph.now claim_of claims c.loop-index.index (claim_of c.index-claims-index.result) asks refl) (yields_number (λ c. c) c.claim_behind.result asks (c.loop-index.index + 1) _ c.in_ok-one.ensures c.claim_behind.ensures)))

pub returns : goal.returns
returns c = each_done (claim_among c.args.graph.now (map claim_of c.args.claims.now)) claim_of c.args.claims.now c.loop-index.index c.loop-index.asked.items c.loop-index-test.false c.loop-index.invariant
