use Rattle.std.proofs.Common.{◌+◌, refl, sym, ap, ◌∙◌, subst, arith}
use Rattle.tpl_model.specs.View.{known}
use Rattle.tpl_model.specs.Starts.{then_starts}
use Rattle.tpl_model.proofs.Lists.{deep_in}
use Rattle.tpl_model.proofs.StartsSoFar.{StartsSoFar, step}
use Rattle.tpl_model.proofs.starts.+start.Goals as goal

pub start_in-start_at-requires : goal.start_in-start_at-requires
start_in-start_at-requires t c =
    (omega (arith, c.decreases, deep_in _ _ _ _ c.loop-statement.invariant.whole c.loop-statement-test.true c.statement-item.is), tt)

pub start_in-loop-statement-preserved : goal.start_in-loop-statement-preserved
start_in-loop-statement-preserved t c =
    subst (λ so_far. StartsSoFar c.args.child.0 (known c.args.view.now) c.args.body.now c.list-statement-items.result.now (c.loop-statement.statement-index + 1) so_far)
    (sym (c.then-so_far.ensures ∙ ap (then_starts c.loop-statement.so_far) c.start_at.ensures))
    (step c.args.child.0 (known c.args.view.now) c.args.body.now c.list-statement-items.result.now c.loop-statement.statement-index c.loop-statement.so_far c.statement-item.result c.loop-statement-test.true c.statement-item.is c.loop-statement.invariant)

pub start_at-returns-in-If : goal.start_at-returns-in-If
start_at-returns-in-If t c =
    rw (c.or.ensures, c.only_if-on_true.ensures, c.only_if-on_false.ensures, c.start_in.ensures, c.start_in-in-If.ensures, c.may_be.ensures, c.may_be-in-If.ensures, c.in-If.is) refl

pub start_at-returns-in-When : goal.start_at-returns-in-When
start_at-returns-in-When t c =
    rw (c.or-in-When.ensures, c.only_if-so.ensures, c.only_if-otherwise.ensures, c.start_in-in-When.ensures, c.start_in-in-When-2.ensures, c.may_have_ended.ensures, c.may_differ.ensures, c.in-When.is) refl
