use Rattle.std.proofs.Common.{◌++◌, arith}
use Rattle.std.specs.Option.{option_map}
use Rattle.tpl_draft.specs.Ids.{token_number}
use Rattle.tpl_model.specs.Certificate.{as_quiet}
use Rattle.tpl_checker.specs.Assumptions.{assumed_of}
use Rattle.tpl_checker.proofs.Basics.{drop_all}
use Rattle.tpl_checker.proofs.GivenLemmas.{given_at_first, given_at_last, given_step}
use Rattle.tpl_checker.proofs.given.assumed_with.Goals as goal

pub loop-one-init : goal.loop-one-init
loop-one-init c = given_at_first (option_map token_number c.args.own) c.args.given.now (assumed_of c.with_own-assumed.result) c.with_own-assumed.ensures

pub loop-one-preserved : goal.loop-one-preserved
loop-one-preserved c =
    given_step (as_quiet (option_map token_number c.args.own) ++ c.args.given.now) c.args.given.now c.loop-one.one-index
    (assumed_of c.loop-one.assumed) (assumed_of c.with_given-assumed.result) _ c.loop-one-test.true c.with_given-assumed.ensures c.loop-one.invariant

pub returns : goal.returns
returns c =
    let all = as_quiet (option_map token_number c.args.own) ++ c.args.given.now in
    given_at_last c.args.graph.now.graph all c.args.given.now c.loop-one.one-index c.loop-one.assumed c.with_sources-assumed.result
    (drop_all c.args.given.now c.loop-one.one-index (omega arith)) c.loop-one.invariant (c.with_sources-assumed.ensures all)
