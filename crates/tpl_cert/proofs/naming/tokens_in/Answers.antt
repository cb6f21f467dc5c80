use Rattle.std.proofs.lemmas.Result.{err_from_is_err_and}
use Rattle.tpl_paths.specs.TokenSet.{has_token}
use Rattle.tpl_json.proofs.Passes.{each_more, each_done, each_fails, fails_bind}
use Rattle.tpl_cert.specs.Naming.{number_in}
use Rattle.tpl_cert.proofs.Names.{collects_none, collects_more, none_has, tokens_collected}
use Rattle.tpl_cert.proofs.naming.tokens_in.Goals as goal

pub loop-name-init : goal.loop-name-init
loop-name-init c = collects_none c.args.graph.now.names.tokens (has_token c.empty-set.result) (λ k. rw c.empty-set.ensures (none_has k))

pub returns-in_err-token : goal.returns-in_err-token
returns-in_err-token c =
    let p = err_from_is_err_and c.from_residual.result c.from_residual.ensures.1 in
    rw (p.1, p.2) (fails_bind c.in_err-token.field-0.0 _ _ (each_fails (λ n text. number_in c.args.graph.now.names.tokens text) (λ s. s.now) c.args.names.now c.loop-name.name-index _ c.loop-name.invariant.numbers c.in_err-token.field-0.0 c.loop-name-test.true c.loop-name.invariant.named c.in_err-token.ensures.yields))

pub loop-name-preserved : goal.loop-name-preserved
loop-name-preserved c =
    let is = c.loop-name.invariant in
    collects_more c.args.graph.now.names.tokens _ _ (has_token c.loop-name.set) (has_token c.insert.new.self) c.in_ok-token.token.0 is
    (each_more (λ n text. number_in c.args.graph.now.names.tokens text) (λ s. s.now) c.args.names.now c.loop-name.name-index _ is.numbers c.in_ok-token.token.0 c.loop-name-test.true is.named c.in_ok-token.ensures.yields)
    c.insert.ensures

pub returns : goal.returns
returns c =
    let is = c.loop-name.invariant in
    tokens_collected c.args.graph.now.names.tokens _ c.loop-name.set
    (record { numbers = is.numbers; named = each_done (λ n text. number_in c.args.graph.now.names.tokens text) (λ s. s.now) c.args.names.now c.loop-name.name-index is.numbers c.loop-name-test.false is.named; members = is.members })
