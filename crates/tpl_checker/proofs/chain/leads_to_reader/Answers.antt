use Rattle.std.proofs.Common.{◌+◌, ◌<◌, ◌∙◌, length, sym, arith}
use Rattle.tpl_checker.specs.Assumptions.{assumed_of}
use Rattle.tpl_checker.proofs.ChainLemmas.{chain_last, chain_leads, chain_step, chain_stops, next_is_task}
use Rattle.tpl_checker.proofs.chain.leads_to_reader.Goals as goal

pub reads-requires : goal.reads-requires
reads-requires c = next_is_task (chain_leads c.args.graph.now.graph (assumed_of c.args.assumed.now)) _ c.loop-at-test.true c.loop-at.invariant

pub takes_over-requires : goal.takes_over-requires
takes_over-requires c = next_is_task (chain_leads c.args.graph.now.graph (assumed_of c.args.assumed.now)) _ c.loop-at-test.true c.loop-at.invariant

pub returns-then-at-chain : goal.returns-then-at-chain
returns-then-at-chain c = c.reads.ensures ∙ chain_last (chain_leads c.args.graph.now.graph (assumed_of c.args.assumed.now)) _ c.loop-at-test.true c.loop-at.invariant c.if-at-chain.true

pub returns-then-not-takes_over : goal.returns-then-not-takes_over
returns-then-not-takes_over c =
    let more : c.loop-at.at + 1 < length c.args.chain.now = omega arith in
    chain_stops (chain_leads c.args.graph.now.graph (assumed_of c.args.assumed.now)) (record { 0 = 0 }) c.loop-at-test.true c.loop-at.invariant more (sym c.takes_over.ensures ∙ c.if-not-takes_over.true)

pub loop-at-preserved : goal.loop-at-preserved
loop-at-preserved c =
    let more : c.loop-at.at + 1 < length c.args.chain.now = omega arith in
    chain_step (chain_leads c.args.graph.now.graph (assumed_of c.args.assumed.now)) (record { 0 = 0 }) c.loop-at-test.true c.loop-at.invariant more (sym c.takes_over.ensures ∙ c.if-not-takes_over.false)
