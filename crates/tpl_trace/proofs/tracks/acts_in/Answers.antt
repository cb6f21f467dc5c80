use Rattle.tpl_trace.proofs.TrackLemmas.{acts_found, acts_before}
use Rattle.tpl_trace.proofs.tracks.acts_in.Goals as goal

pub returns-then-same_actor : goal.returns-then-same_actor
returns-then-same_actor c =
    acts_found c.args.actor c.args.events.now c.loop-left.left _ c.same_actor.result c.loop-left-test.true c.loop-left.invariant.0 c.loop-left.invariant.1 c.same_actor.ensures c.if-same_actor.true

pub loop-left-preserved : goal.loop-left-preserved
loop-left-preserved c =
    acts_before c.args.actor c.args.events.now c.loop-left.left _ c.same_actor.result c.loop-left-test.true c.loop-left.invariant.0 c.loop-left.invariant.1 c.same_actor.ensures c.if-same_actor.false
