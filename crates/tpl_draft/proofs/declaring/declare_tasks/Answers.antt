use Rattle.std.proofs.Common.{sym, ap, subst, ◌+◌, ◌∙◌, ◌<◌, arith, length, map}
use Rattle.std.proofs.lemmas.List.{length-map}
use Rattle.std.proofs.lemmas.Option.{slice_get_within}
use Rattle.std.specs.Prelude.{string_bytes}
use Rattle.tpl_draft.specs.Draft.{Task}
use Rattle.tpl_draft.specs.Twice.{NoneTwiceBelow}
use Rattle.tpl_draft.specs.SeenTasks.{draft_of, task_of}
use Rattle.tpl_draft.proofs.DeclareLemmas.{tasks_twice, no_name_twice}
use Rattle.tpl_draft.proofs.declaring.declare_tasks.Goals as goal

pub returns-in-Ok-clause-none : goal.returns-in-Ok-clause-none
returns-in-Ok-clause-none c =
    no_name_twice (draft_of c.args.draft.now) (map string_bytes c.deref-2.result.now)
    (ap (map string_bytes) c.deref-2.ensures.value ∙ (c.in_ok-list.ensures ∙ ap (λ l. map (λ (t : Task). t.name) (map task_of l)) c.deref.ensures.value))
    c.requires.inputs c.requires.tokens (subst (λ n. NoneTwiceBelow (map string_bytes c.deref-2.result.now) n) (sym (length-map c.deref-2.result.now string_bytes)) c.in-Ok.ensures.distinct) c.requires.before

pub overflow_add-t : goal.overflow_add-t
overflow_add-t c =
    let twice = (rw c.in-Err-Twice.field-0-is at c.in-Err-Twice.ensures.fault) in
    let within : c.in-Err-Twice.t < length (map string_bytes c.deref-2.result.now) = slice_get_within (map string_bytes c.deref-2.result.now) c.in-Err-Twice.t twice.0.0 twice.0.1 in
    omega (arith, length-map c.deref-2.result.now string_bytes, c.deref-2.ensures.value, ap length c.deref-2.ensures.value)

pub returns-in-Err-Twice-clause-fault : goal.returns-in-Err-Twice-clause-fault
returns-in-Err-Twice-clause-fault c =
    let twice = (rw c.in-Err-Twice.field-0-is at c.in-Err-Twice.ensures.fault) in
    rw c.twice_at.ensures (tasks_twice (draft_of c.args.draft.now) (map string_bytes c.deref-2.result.now) c.in-Err-Twice.t (c.in-Err-Twice.t + 1)
    (ap (map string_bytes) c.deref-2.ensures.value ∙ (c.in_ok-list.ensures ∙ ap (λ l. map (λ (t : Task). t.name) (map task_of l)) c.deref.ensures.value))
    (omega arith) c.requires.inputs c.requires.tokens twice.0 twice.1 c.requires.before)
