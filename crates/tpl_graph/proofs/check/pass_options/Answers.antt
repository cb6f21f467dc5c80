use Rattle.std.proofs.Common.{refl}
use Rattle.tpl_draft.specs.declared.fault.OptionsFault.TheVariants.{ExcludesAll}
use Rattle.tpl_draft.specs.declared.fault.Why.TheVariants as why
use Rattle.tpl_draft.specs.Refusals.{number}
use Rattle.tpl_draft.specs.SeenTasks.{draft_of}
use Rattle.tpl_draft.proofs.FirstLemmas.{none_at_first, none_applies}
use Rattle.tpl_draft.proofs.LeastLemmas.{none_below_next}
use Rattle.tpl_draft.proofs.OptionLemmas.{some_fault, fault_at_next, no_fault_next}
use Rattle.tpl_graph.proofs.check.pass_options.Goals as goal

pub loop-t-init : goal.loop-t-init
loop-t-init c = none_at_first (some_fault c.args.draft.now) refl

pub returns-in-Some-clause-fault : goal.returns-in-Some-clause-fault
returns-in-Some-clause-fault c =
    fault_at_next c.args.draft.now c.loop-t.t c.task-item.result c.in-Some.fault (rw c.deref-task-items.ensures.value at c.loop-t-test.true) (rw c.deref-task-items.ensures.value at c.task-item.is) c.loop-t.invariant c.in-Some.ensures c.requires

pub loop-t-preserved : goal.loop-t-preserved
loop-t-preserved c =
    no_fault_next c.args.draft.now c.loop-t.t c.task-item.result (rw c.deref-task-items.ensures.value at c.loop-t-test.true) (rw c.deref-task-items.ensures.value at c.task-item.is) c.loop-t.invariant c.in_default.ensures

pub returns-clause-none : goal.returns-clause-none
returns-clause-none c =
    none_below_next (draft_of c.args.draft.now) (why.Option ExcludesAll) (number why.ObserveNothing) refl c.requires (none_applies c.args.draft.now (why.Option ExcludesAll) c.loop-t.t (rw c.deref-task-items.ensures.value at c.loop-t-test.false) c.loop-t.invariant)
