use Rattle.std.proofs.Common.{sym, ◌∙◌}
use Rattle.tpl_fast.specs.Kept.{is_over}
use Rattle.tpl_run.proofs.GraphLemmas.{mem_at}
use Rattle.tpl_fast.proofs.HeadLemmas.{pass_more, not_open}
use Rattle.tpl_fast.proofs.state.State.first_open.Goals as goal

pub loop-i-preserved : goal.loop-i-preserved
loop-i-preserved c = λ first.
    pass_more (is_over c.args.self.now) c.args.children.now c.loop-i.i (record { 0 = 0 }) c.loop-i-test.true
    (not_open _ _ (sym c.is_open.ensures ∙ c.if-is_open.false)) (c.loop-i.invariant first)

pub is_open-requires : goal.is_open-requires
is_open-requires c = c.requires.tasks _ (mem_at c.args.children.now c.loop-i.i (record { 0 = 0 }) c.loop-i-test.true)
