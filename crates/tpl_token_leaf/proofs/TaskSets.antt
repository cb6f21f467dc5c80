-- Lists of tasks as sets.
use Rattle.std.proofs.Common.{◌≡◌, ℕ, ◌+◌, ◌<◌, ◌≤◌, ◌||◌, Bool, true, false, List, [], ◌∷◌, drop, length, map, nat_eq, refl, sym, ap, ◌∙◌, slice_index_or, arith}
use Rattle.std.proofs.lemmas.List.{drop_more}
use Rattle.tpl_model.specs.declared.ids.TaskId.{TaskId}
use Rattle.tpl_model.specs.Members.{mem}
use Rattle.tpl_draft.specs.Ids.{task_number}
use Rattle.tpl_graph.specs.Roles.{AreTasks}

turned : (a s r : Bool) → ((a || s) || r) ≡ (s || (a || r))
turned true true r = refl
turned true false r = refl
turned false s r = refl

-- one more of the tasks is in the set
pub one_more_in : (tasks : List TaskId) (i : ℕ) (d : TaskId) (set next : List ℕ) → i < length tasks → ((x : ℕ) → (mem x set || mem x (map task_number (drop i tasks))) ≡ mem x (map task_number tasks)) → ((x : ℕ) → mem x next ≡ (nat_eq x (slice_index_or tasks i d).0 || mem x set))
    → (x : ℕ) → (mem x next || mem x (map task_number (drop (i + 1) tasks))) ≡ mem x (map task_number tasks)
one_more_in tasks i d set next lt s h x =
    ap (λ z. z || mem x (map task_number (drop (i + 1) tasks))) (h x)
    ∙ (turned (nat_eq x (slice_index_or tasks i d).0) (mem x set) (mem x (map task_number (drop (i + 1) tasks)))
    ∙ (ap (λ (ts : List TaskId). mem x set || mem x (map task_number ts)) (sym (drop_more tasks i d lt)) ∙ s x))

pub more_tasks : (n m : ℕ) (ts : List TaskId) → n ≤ m → AreTasks n ts → AreTasks m ts
more_tasks n m [] le a = tt
more_tasks n m (t ∷ ts) le a = (let lt = a.0 in omega arith, more_tasks n m ts le a.1)
