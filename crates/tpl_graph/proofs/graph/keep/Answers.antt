use Rattle.std.proofs.Common.{◌≡◌, length, map, ap, sym, ◌∙◌, subst, arith, List}
use Rattle.std.proofs.lemmas.List.{length-map}
use Rattle.tpl_draft.specs.declared.draft.DraftTask.{DraftTask}
use Rattle.tpl_draft.specs.Draft.{Token}
use Rattle.tpl_draft.specs.Named.{Names}
use Rattle.tpl_draft.specs.Numbered.{names_of, task_in, token_in, AreFew}
use Rattle.tpl_draft.specs.Origins as origins
use Rattle.tpl_graph.specs.Rows as rows
use Rattle.tpl_draft.specs.SeenTasks.{draft_of, task_of}
use Rattle.tpl_draft.specs.Tables.{seen}
use Rattle.tpl_graph.proofs.GraphLaw.{are_small, few_tasks, few_tokens}
use Rattle.tpl_graph.proofs.KeptLaw.{are_kept}
use Rattle.tpl_graph.proofs.WholeLaw.{are_few}
use Rattle.tpl_graph.proofs.graph.keep.Goals as goal

pub number_tasks-requires-clause-few : goal.number_tasks-requires-clause-few
number_tasks-requires-clause-few c = subst AreFew (sym c.requires.checked.names) (are_few (draft_of c.args.draft.now) c.requires.valid)

pub number_tasks-requires-clause-small : goal.number_tasks-requires-clause-small
number_tasks-requires-clause-small c = rw c.deref.ensures.value (are_small (draft_of c.args.draft.now) c.requires.valid)

pub bound-bound-requires-clause-rows : goal.bound-bound-requires-clause-rows
bound-bound-requires-clause-rows c =
    omega (arith, few_tasks (draft_of c.args.draft.now) c.requires.valid, ap length c.deref-5.ensures.value, ap length c.in_ok-tasks.ensures, length-map c.in_ok-tasks.tasks.items rows.task_of, length-map (map task_of c.deref.result.now) (task_in (seen c.args.checked.now.names)), length-map c.deref.result.now task_of, ap length c.deref.ensures.value, length-map c.args.draft.now.tasks.items task_of)

pub bound-bound-requires-clause-tokens : goal.bound-bound-requires-clause-tokens
bound-bound-requires-clause-tokens c =
    omega (arith, few_tokens (draft_of c.args.draft.now) c.requires.valid, c.len.ensures, ap length c.requires.checked.tokens, length-map c.args.checked.now.tokens.items origins.token_of, length-map (draft_of c.args.draft.now).tokens (λ (k : Token). token_in (names_of (draft_of c.args.draft.now)).tokens k.linked))

pub returns-clause-kept : goal.returns-clause-kept
returns-clause-kept c =
    let rows_are : map rows.task_of c.in_ok-tasks.tasks.items ≡ map (task_in (names_of (draft_of c.args.draft.now))) (draft_of c.args.draft.now).tasks = c.in_ok-tasks.ensures ∙ (ap (λ (n : Names). map (task_in n) (map task_of c.deref.result.now)) c.requires.checked.names ∙ ap (λ (l : List DraftTask). map (task_in (names_of (draft_of c.args.draft.now))) (map task_of l)) c.deref.ensures.value) in
    are_kept (draft_of c.args.draft.now) c.requires.valid c.in_ok-tasks.tasks.items c.args.checked.now.starts.items c.args.checked.now.starters.items c.in_ok-parents.parents.items c.in_ok-attached.attached.items c.len.result c.bound-bound.result
    rows_are c.requires.checked.starts c.requires.checked.long c.requires.checked.starters
    (rw c.deref-4.ensures.value at c.in_ok-parents.ensures)
    (rw c.deref-3.ensures.value at c.in_ok-attached.ensures.long)
    (rw c.deref-2.ensures.value at (rw c.deref-3.ensures.value at c.in_ok-attached.ensures.each))
    (c.len.ensures ∙ (c.args.checked.now.tokens.ok.0 ∙ (sym (length-map c.args.checked.now.tokens.items origins.token_of) ∙ ap length c.requires.checked.tokens)))
    (rw c.deref-5.ensures.value at c.bound-bound.ensures)
