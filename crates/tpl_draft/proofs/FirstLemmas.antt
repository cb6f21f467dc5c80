-- A loop over the tasks that looks for the first that is refused.
use Rattle.std.proofs.Common.{◌≡◌, ℕ, zero, suc, ◌+◌, ◌<◌, ◌≤◌, Bool, true, false, length, map, get_or, sym, ap, ◌∙◌, arith, ⊎_elim}
use Rattle.std.proofs.lemmas.Bool.{cases_eq, cases_lt}
use Rattle.std.proofs.lemmas.List.{length-map}
use Rattle.std.proofs.lemmas.Option.{slice_get-map, slice_get-get_or, slice_get_past}
use Rattle.std.specs.Option.{option_map}
use Rattle.std.specs.Prelude.{slice_get, Some, None}
use Rattle.tpl_draft.specs.declared.draft.DraftTask.{DraftTask}
use Rattle.tpl_draft.specs.declared.draft.Draft as declared
use Rattle.tpl_draft.specs.declared.fault.Why.{Why}
use Rattle.tpl_draft.specs.SeenTasks.{task_of, draft_of}
use Rattle.tpl_draft.specs.Refusals.{applies, in_task, at_task, IsFirst}

-- the property holds of no number up to t
pub record NoneUpTo (p : ℕ → Bool) (t : ℕ) : Type 0 where
  pub none : (m : ℕ) → m < suc t → p m ≡ false

pub none_at_first : (p : ℕ → Bool) → p 0 ≡ false → NoneUpTo p 0
none_at_first p e = record { none = none }
  where
    none : (m : ℕ) → m < 1 → p m ≡ false
    none zero lt = e
    none (suc m) lt = absurd (omega arith)

pub none_at_next : (p : ℕ → Bool) (t : ℕ) → NoneUpTo p t → p (suc t) ≡ false → NoneUpTo p (t + 1)
none_at_next p t before e = record {
  none = λ m below. ⊎_elim
      (λ same. ap p same ∙ e)
      (λ apart. before.none m (omega arith))
      (cases_eq m (suc t));
}

first_suc : (p : ℕ → Bool) (t n : ℕ) → n ≡ suc t → p (suc t) ≡ true → NoneUpTo p t → IsFirst p (Some n)
first_suc p t n e here before = (ap p e ∙ here, λ m below. before.none m (omega arith))

pub first_at_next : (p : ℕ → Bool) (t : ℕ) → NoneUpTo p t → p (suc t) ≡ true → IsFirst p (Some (t + 1))
first_at_next p t before e = first_suc p t (t + 1) (omega arith) e before

pub first_at_once : (p : ℕ → Bool) → p 0 ≡ true → IsFirst p (Some 0)
first_at_once p e = (e, λ m below. absurd (omega arith))

pub applies_at : (d : declared.Draft) (w : Why) (t : ℕ) (x : DraftTask) → t < length d.tasks.items → x ≡ get_or d.tasks.items t x → applies (draft_of d) w (suc t) ≡ in_task (draft_of d) w t (task_of x)
applies_at d w t x lt is =
    let e : slice_get (map task_of d.tasks.items) t ≡ Some (task_of x) = slice_get-map task_of d.tasks.items t ∙ (ap (option_map task_of) (slice_get-get_or d.tasks.items t x lt) ∙ ap (λ y. Some (task_of y)) (sym is)) in
    ap (at_task (in_task (draft_of d) w t)) e

pub none_applies : (d : declared.Draft) (w : Why) (t : ℕ) → length d.tasks.items ≤ t → NoneUpTo (applies (draft_of d) w) t → IsFirst (applies (draft_of d) w) None
none_applies d w t le before = none
  where
    none : (m : ℕ) → applies (draft_of d) w m ≡ false
    none zero = before.none zero (omega arith)
    none (suc m) = ⊎_elim
        (λ inside. before.none (suc m) (omega arith))
        (λ past.
        let e : slice_get (map task_of d.tasks.items) m ≡ None = slice_get_past (map task_of d.tasks.items) m (omega (arith, length-map d.tasks.items task_of)) in
        ap (at_task (in_task (draft_of d) w m)) e)
        (cases_lt m (length d.tasks.items))
