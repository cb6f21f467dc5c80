-- Lists of the tasks that an event may concern, one task more.
use Rattle.std.proofs.Common.{◌≡◌, ◌≢◌, ℕ, ◌<◌, ◌++◌, inl, inr, true, List, [], ◌∷◌, length, map, Some, sym, ap, ◌∙◌, subst, arith}
use Rattle.std.specs.Prelude.{slice_get, slice_set, slice_index_or}
use Rattle.std.specs.declared.vec.Vec.{Vec}
use Rattle.std.specs.declared.alloc.Global.{Global}
use Rattle.std.proofs.lemmas.Bool.{cases_lt, cases_eq}
use Rattle.std.proofs.lemmas.List.{length-set, get_or-set_same, get_or-set_other}
use Rattle.std.proofs.lemmas.Option.{slice_get-get_or, slice_get_past}
use Rattle.tpl_model.proofs.Truths.{true_false}
use Rattle.tpl_model.proofs.MemberLemmas.{mem_here, mem_there, mem_split}
use Rattle.tpl_model.specs.declared.ids.TaskId.{TaskId}
use Rattle.tpl_model.specs.Members.{mem}
use Rattle.tpl_draft.specs.Ids.{task_number}
use Rattle.tpl_fast.specs.Due.{in_some, is_told, Keep}

set_same : {X : Type 0} (xs : List X) (i : ℕ) (x : X) → i < length xs → slice_get (slice_set xs i x) i ≡ Some x
set_same xs i x lt = slice_get-get_or (slice_set xs i x) i x (let e = length-set xs i x in omega arith) ∙ ap Some (get_or-set_same xs i x x lt)

set_other : {X : Type 0} (xs : List X) (i t : ℕ) (x : X) → t ≢ i → slice_get (slice_set xs i x) t ≡ slice_get xs t
set_other xs i t x apart = elim (cases_lt t (length xs)) [
  | inl lt ↦ slice_get-get_or (slice_set xs i x) t x (let e = length-set xs i x in omega arith)
      ∙ (ap Some (get_or-set_other xs i t x x apart) ∙ sym (slice_get-get_or xs t x lt))
  | inr le ↦ slice_get_past (slice_set xs i x) t (let e = length-set xs i x in omega arith) ∙ sym (slice_get_past xs t le)
]

mem_last : (xs : List TaskId) (x : TaskId) → mem x.0 (map task_number (xs ++ x ∷ [])) ≡ true
mem_last [] x = mem_here x.0 []
mem_last (y ∷ ys) x = mem_there x.0 y.0 (map task_number (ys ++ x ∷ [])) (mem_last ys x)

mem_before : (xs : List TaskId) (x : TaskId) (t : ℕ) → mem t (map task_number xs) ≡ true → mem t (map task_number (xs ++ x ∷ [])) ≡ true
mem_before [] x t m = true_false (sym m)
mem_before (y ∷ ys) x t m = elim (mem_split t y.0 (map task_number ys) m) [
  | inl q ↦ subst (λ z. mem z (y.0 ∷ map task_number (ys ++ x ∷ [])) ≡ true) (sym q) (mem_here y.0 (map task_number (ys ++ x ∷ [])))
  | inr q ↦ mem_there t y.0 (map task_number (ys ++ x ∷ [])) (mem_before ys x t q)
]

module _ (lists lists' : List (Vec TaskId Global)) (at : ℕ) (old new : Vec TaskId Global) (task : TaskId) (lt : at < length lists) (is_old : old ≡ slice_index_or lists at old) (is : lists' ≡ slice_set lists at new) (pushed : new.items ≡ old.items ++ task ∷ []) where
  old_here : slice_get lists at ≡ Some old
  old_here = slice_get-get_or lists at old lt ∙ ap Some (sym is_old)

  here : slice_get lists' at ≡ Some new
  here = ap (λ l. slice_get l at) is ∙ set_same lists at new lt

  pub one_told : is_told lists' at task.0 ≡ true
  one_told = ap (λ o. in_some o task.0) here ∙ (ap (λ xs. mem task.0 (map task_number xs)) pushed ∙ mem_last old.items task)

  pub others_told : Keep lists lists'
  others_told x t m = elim (cases_eq x at) [
    | inl same ↦
        let before : mem t (map task_number old.items) ≡ true = sym (ap (λ o. in_some o t) (ap (slice_get lists) same ∙ old_here)) ∙ m in
        ap (λ o. in_some o t) (ap (slice_get lists') same ∙ here) ∙ (ap (λ xs. mem t (map task_number xs)) pushed ∙ mem_before old.items task t before)
    | inr apart ↦ ap (λ o. in_some o t) (ap (λ l. slice_get l x) is ∙ set_other lists at x new apart) ∙ m
  ]
