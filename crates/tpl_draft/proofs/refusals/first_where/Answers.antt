use Rattle.std.proofs.Common.{◌≡◌, ℕ, suc, ◌<◌, sym, ◌∙◌, length, map, get_or, arith}
use Rattle.std.proofs.lemmas.List.{length-map}
use Rattle.tpl_draft.specs.declared.draft.Draft.{Draft}
use Rattle.tpl_draft.specs.declared.draft.DraftTask.{DraftTask}
use Rattle.tpl_draft.specs.declared.refusals.Test.{Test}
use Rattle.tpl_draft.specs.SeenTasks.{draft_of, task_of}
use Rattle.tpl_draft.specs.Refusals.{applies}
use Rattle.tpl_draft.specs.Test.{IsTestOf, tests, why_of}
use Rattle.tpl_draft.proofs.FirstLemmas.{none_at_first, none_at_next, first_at_next, first_at_once, applies_at, none_applies}
use Rattle.tpl_draft.proofs.TestLemmas.{tested, asked_of_lists}
use Rattle.tpl_draft.proofs.refusals.first_where.Goals as goal

pub returns-then-in_lists : goal.returns-then-in_lists
returns-then-in_lists c =
    first_at_once (applies (draft_of c.args.draft.now) (why_of c.args.test.now)) (sym (asked_of_lists (draft_of c.args.draft.now) c.args.test.now c.requires) ∙ (sym c.in_lists.ensures ∙ c.if-in_lists.true))

pub loop-t-init : goal.loop-t-init
loop-t-init c = none_at_first (applies (draft_of c.args.draft.now) (why_of c.args.test.now)) (sym (asked_of_lists (draft_of c.args.draft.now) c.args.test.now c.requires) ∙ (sym c.in_lists.ensures ∙ c.if-in_lists.false))

-- at a task the refusal applies just where the test is true of it
applies_as_tested : (d : Draft) (test : Test) (t : ℕ) (x : DraftTask) → IsTestOf (draft_of d) test → t < length d.tasks.items → x ≡ get_or d.tasks.items t x → applies (draft_of d) (why_of test) (suc t) ≡ tests (map task_of d.tasks.items) test t (task_of x)
applies_as_tested d test t x of lt is =
    applies_at d (why_of test) t x lt is
    ∙ sym (tested (draft_of d) test t (task_of x) (omega (arith, lt, length-map d.tasks.items task_of)) of)

pub returns-then-in_task : goal.returns-then-in_task
returns-then-in_task c =
    first_at_next (applies (draft_of c.args.draft.now) (why_of c.args.test.now)) c.loop-t.t c.loop-t.invariant
    (applies_as_tested c.args.draft.now c.args.test.now c.loop-t.t c.task-item.result c.requires (rw c.deref-task-items.ensures.value at c.loop-t-test.true) (rw c.deref-task-items.ensures.value at c.task-item.is)
    ∙ (sym (rw c.deref.ensures.value at c.in_task.ensures) ∙ c.if-in_task.true))

pub loop-t-preserved : goal.loop-t-preserved
loop-t-preserved c =
    none_at_next (applies (draft_of c.args.draft.now) (why_of c.args.test.now)) c.loop-t.t c.loop-t.invariant
    (applies_as_tested c.args.draft.now c.args.test.now c.loop-t.t c.task-item.result c.requires (rw c.deref-task-items.ensures.value at c.loop-t-test.true) (rw c.deref-task-items.ensures.value at c.task-item.is)
    ∙ (sym (rw c.deref.ensures.value at c.in_task.ensures) ∙ c.if-in_task.false))

pub returns : goal.returns
returns c = none_applies c.args.draft.now (why_of c.args.test.now) c.loop-t.t (rw c.deref-task-items.ensures.value at c.loop-t-test.false) c.loop-t.invariant
