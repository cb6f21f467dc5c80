use Rattle.std.proofs.Common.{◌+◌, refl, sym, ap, ◌∙◌, subst, arith}
use Rattle.tpl_model.specs.View.{known}
use Rattle.tpl_model.specs.Ends.{then_ends}
use Rattle.tpl_model.proofs.Lists.{deep_in}
use Rattle.tpl_model.proofs.EndsSoFar.{EndsSoFar, step}
use Rattle.tpl_model.proofs.ends.+ends.Goals as goal

pub ends_of-ends_at-requires : goal.ends_of-ends_at-requires
ends_of-ends_at-requires t c =
    (omega (arith, c.decreases, deep_in _ _ _ _ c.loop-statement.invariant.whole c.loop-statement-test.true c.statement-item.is), tt)

pub ends_of-loop-statement-preserved : goal.ends_of-loop-statement-preserved
ends_of-loop-statement-preserved t c =
    subst (λ so_far. EndsSoFar c.args.past_observe (known c.args.view.now) c.args.body.now c.list-statement-items.result.now (c.loop-statement.statement-index + 1) so_far)
    (sym (c.then-so_far.ensures ∙ ap (then_ends c.loop-statement.so_far) c.ends_at.ensures))
    (step c.args.past_observe (known c.args.view.now) c.args.body.now c.list-statement-items.result.now c.loop-statement.statement-index c.loop-statement.so_far c.statement-item.result c.loop-statement-test.true c.statement-item.is c.loop-statement.invariant)

pub ends_at-returns-in-If : goal.ends_at-returns-in-If
ends_at-returns-in-If t c =
    rw c.in-If.is (rw c.or.ensures (rw c.only_if-on_true.ensures (rw c.only_if-on_false.ensures (rw c.may_be.ensures (rw c.may_be-in-If.ensures (rw c.ends_of.ensures (rw c.ends_of-in-If.ensures refl)))))))

pub ends_at-returns-in-When : goal.ends_at-returns-in-When
ends_at-returns-in-When t c =
    rw c.in-When.is (rw c.or-in-When.ensures (rw c.only_if-so.ensures (rw c.only_if-otherwise.ensures (rw c.may_have_ended.ensures (rw c.may_differ.ensures (rw c.ends_of-in-When.ensures (rw c.ends_of-in-When-2.ensures refl)))))))
