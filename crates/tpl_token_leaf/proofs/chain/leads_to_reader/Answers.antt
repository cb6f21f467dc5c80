use Rattle.std.proofs.Common.{◌+◌, ◌<◌, ◌≤◌, ◌∙◌, length, refl, sym, arith}
use Rattle.tpl_checker.proofs.Basics.{drop_all}
use Rattle.tpl_checker.proofs.ChainLemmas.{chain_last, chain_none, chain_step, chain_stops, next_is_task}
use Rattle.tpl_token_leaf.specs.Leaf.{graph_of, assumed_in}
use Rattle.tpl_token_leaf.proofs.TokenChainLemmas.{token_chain_leads}
use Rattle.tpl_token_leaf.proofs.chain.leads_to_reader.Goals as goal

pub loop-at-init : goal.loop-at-init
loop-at-init c = record { left = c.requires; same = refl }

pub reads_from-requires : goal.reads_from-requires
reads_from-requires c = next_is_task (token_chain_leads (graph_of c.args.leaf.now) (assumed_in c.args.leaf.now)) _ c.loop-at-test.true c.loop-at.invariant

pub takes_over-requires : goal.takes_over-requires
takes_over-requires c = next_is_task (token_chain_leads (graph_of c.args.leaf.now) (assumed_in c.args.leaf.now)) _ c.loop-at-test.true c.loop-at.invariant

pub returns-then-at-chain : goal.returns-then-at-chain
returns-then-at-chain c = c.reads_from.ensures ∙ chain_last (token_chain_leads (graph_of c.args.leaf.now) (assumed_in c.args.leaf.now)) _ c.loop-at-test.true c.loop-at.invariant c.if-at-chain.true

pub returns-then-not-takes_over : goal.returns-then-not-takes_over
returns-then-not-takes_over c =
    let more : c.loop-at.at + 1 < length c.args.chain.now = omega arith in
    chain_stops (token_chain_leads (graph_of c.args.leaf.now) (assumed_in c.args.leaf.now)) (record { 0 = 0 }) c.loop-at-test.true c.loop-at.invariant more (sym c.takes_over.ensures ∙ c.if-not-takes_over.true)

pub loop-at-preserved : goal.loop-at-preserved
loop-at-preserved c =
    let more : c.loop-at.at + 1 < length c.args.chain.now = omega arith in
    chain_step (token_chain_leads (graph_of c.args.leaf.now) (assumed_in c.args.leaf.now)) (record { 0 = 0 }) c.loop-at-test.true c.loop-at.invariant more (sym c.takes_over.ensures ∙ c.if-not-takes_over.false)

pub returns : goal.returns
returns c =
    let past : length c.args.chain.now ≤ c.loop-at.at = omega arith in
    chain_none (token_chain_leads (graph_of c.args.leaf.now) (assumed_in c.args.leaf.now)) (drop_all c.args.chain.now c.loop-at.at past) c.loop-at.invariant
