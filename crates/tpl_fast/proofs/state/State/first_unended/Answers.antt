use Rattle.std.proofs.Common.{sym, ◌∙◌}
use Rattle.tpl_fast.specs.Kept.{has_ended}
use Rattle.tpl_fast.proofs.HeadLemmas.{pass_more}
use Rattle.tpl_fast.proofs.state.State.first_unended.Goals as goal

pub loop-i-preserved : goal.loop-i-preserved
loop-i-preserved c = λ first.
    pass_more (has_ended c.args.self.now) c.args.tasks.now c.loop-i.i (record { 0 = 0 }) c.loop-i-test.true
    (sym c.has_ended.ensures ∙ c.if-not-has_ended.false) (c.loop-i.invariant first)
