-- The loop over the tasks that tests their options.
use Rattle.std.proofs.Common.{◌≡◌, ℕ, zero, suc, ◌+◌, ◌<◌, Bool, true, length, get_or, refl, sym, ap, ◌∙◌, subst, arith}
use Rattle.std.specs.Prelude.{Some, None, is_some}
use Rattle.tpl_draft.specs.declared.draft.DraftTask.{DraftTask}
use Rattle.tpl_draft.specs.declared.draft.Draft as declared
use Rattle.tpl_draft.specs.declared.fault.OptionsFault.{OptionsFault}
use Rattle.tpl_draft.specs.declared.fault.OptionsFault.TheVariants.{ExcludesAll, LongAndSync, WrongKind}
use Rattle.tpl_draft.specs.declared.fault.Why.TheVariants as why
use Rattle.tpl_draft.specs.Draft.{Task, Draft}
use Rattle.tpl_draft.specs.SeenTasks.{task_of, draft_of}
use Rattle.tpl_draft.specs.Refusals.{applies, at_task, number, names_fault, is_fault, options_fault_of, NoneBelow, Refuses}
use Rattle.tpl_draft.proofs.FirstLemmas.{NoneUpTo, none_at_next, first_at_next, applies_at}
use Rattle.tpl_draft.proofs.LeastLemmas.{least}
use Rattle.tpl_draft.proofs.NamesLemmas.{map_here}

abbrev pub some_fault : declared.Draft → ℕ → Bool
some_fault d at = applies (draft_of d) (why.Option ExcludesAll) at

same_fault : (d : Draft) (f : OptionsFault) (at : ℕ) → applies d (why.Option ExcludesAll) at ≡ applies d (why.Option f) at
same_fault d f zero = refl
same_fault d f (suc t) = refl

itself : (f : OptionsFault) → is_fault f (Some f) ≡ true
itself ExcludesAll = refl
itself LongAndSync = refl
itself WrongKind = refl

pub fault_at_next : (d : declared.Draft) (t : ℕ) (x : DraftTask) (f : OptionsFault) → t < length d.tasks.items → x ≡ get_or d.tasks.items t x → NoneUpTo (some_fault d) t → Some f ≡ options_fault_of (task_of x) → NoneBelow (draft_of d) (number (why.Option f)) → Refuses (draft_of d) (record { why = why.Option f; at = t + 1 })
fault_at_next d t x f lt is none e before =
    let next : suc t ≡ t + 1 = omega arith in
    let first = first_at_next (some_fault d) t none (applies_at d (why.Option ExcludesAll) t x lt is ∙ ap is_some (sym e)) in
    let named : names_fault (draft_of d) (why.Option f) (suc t) ≡ true = ap (at_task (λ (y : Task). is_fault f (options_fault_of y))) (map_here task_of d.tasks.items t x lt is) ∙ (ap (is_fault f) (sym e) ∙ itself f) in
    least (draft_of d) (why.Option f) (t + 1) (subst (λ k. names_fault (draft_of d) (why.Option f) k ≡ true) next named) before
    (sym (same_fault (draft_of d) f (t + 1)) ∙ first.0, λ m below. sym (same_fault (draft_of d) f m) ∙ first.1 m below)

pub no_fault_next : (d : declared.Draft) (t : ℕ) (x : DraftTask) → t < length d.tasks.items → x ≡ get_or d.tasks.items t x → NoneUpTo (some_fault d) t → None ≡ options_fault_of (task_of x) → NoneUpTo (some_fault d) (t + 1)
no_fault_next d t x lt is none e = none_at_next (some_fault d) t none (applies_at d (why.Option ExcludesAll) t x lt is ∙ ap is_some (sym e))
