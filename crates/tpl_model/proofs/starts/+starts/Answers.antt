use Rattle.std.proofs.Common.{arith}
use Rattle.tpl_model.proofs.Lists.{deep_in}
use Rattle.tpl_model.proofs.StartsSoFar.{adds_both}
use Rattle.tpl_model.proofs.starts.+starts.Goals as goal

pub add_starts_in-add_starts_at-requires : goal.add_starts_in-add_starts_at-requires
add_starts_in-add_starts_at-requires t c =
    (omega (arith, c.decreases, deep_in _ _ _ _ c.loop-statement.invariant.whole c.loop-statement-test.true c.statement-item.is), tt)

pub add_starts_at-returns-then-on_true-clause-found : goal.add_starts_at-returns-then-on_true-clause-found
add_starts_at-returns-then-on_true-clause-found t c =
    rw (c.in-If.is, ← c.may_be.ensures, ← c.may_be-in-If.ensures) (adds_both _ _ _ _ _ c.add_starts_if-on_true.ensures.found c.add_starts_if-on_false.ensures.found)

pub add_starts_at-returns-else-on_true-clause-found : goal.add_starts_at-returns-else-on_true-clause-found
add_starts_at-returns-else-on_true-clause-found t c =
    rw (c.in-If.is, ← c.may_be.ensures, ← c.may_be-in-If.ensures) (adds_both _ _ _ _ _ c.add_starts_if-on_true.ensures.found c.add_starts_if-on_false.ensures.found)

pub add_starts_at-returns-then-so-clause-found : goal.add_starts_at-returns-then-so-clause-found
add_starts_at-returns-then-so-clause-found t c =
    rw (c.in-When.is, ← c.may_have_ended.ensures, ← c.may_differ.ensures) (adds_both _ _ _ _ _ c.add_starts_if-so.ensures.found c.add_starts_if-otherwise.ensures.found)

pub add_starts_at-returns-else-so-clause-found : goal.add_starts_at-returns-else-so-clause-found
add_starts_at-returns-else-so-clause-found t c =
    rw (c.in-When.is, ← c.may_have_ended.ensures, ← c.may_differ.ensures) (adds_both _ _ _ _ _ c.add_starts_if-so.ensures.found c.add_starts_if-otherwise.ensures.found)
