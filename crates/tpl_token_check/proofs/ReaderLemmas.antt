-- Tasks whose exceptions are read or taken over, one by one.
use Rattle.std.proofs.Common.{◌≡◌, ℕ, suc, ◌+◌, ◌<◌, ◌&&◌, ◌||◌, Bool, true, false, List, [], drop, length, map, nat_eq, refl, sym, ap, ◌∙◌, slice_index_or, inl, inr, arith}
use Rattle.std.proofs.lemmas.Bool.{cases_eq}
use Rattle.std.proofs.lemmas.List.{drop_more}
use Rattle.tpl_model.proofs.MemberLemmas.{not_same}
use Rattle.tpl_model.proofs.Truths.{and_second, or_false, same_tests}
use Rattle.tpl_model.specs.declared.ids.TaskId.{TaskId}
use Rattle.tpl_model.specs.Members.{mem}
use Rattle.tpl_draft.specs.Ids.{task_number}
use Rattle.tpl_graph.specs.Roles.{AreTasks}
use Rattle.tpl_laws.specs.RowTests.{some_below}
use Rattle.tpl_checker.proofs.Basics.{tasks_left}

pub or_turned : (a b : Bool) → (a || b) ≡ (b || a)
or_turned a b = grind arith

pub and_turned : (a b : Bool) → (a && b) ≡ (b && a)
and_turned a b = grind arith

-- one number more
pub one_below : (test : ℕ → Bool) (n m : ℕ) (new old : Bool) → m ≡ suc n → new ≡ test n → old ≡ some_below test n → (old || new) ≡ some_below test m
one_below test n m new old e h k = or_turned old new ∙ ((λ i. h i || k i) ∙ sym (ap (some_below test) e))

-- of the first i arguments those that pass the test
pub record WonSoFar (n : ℕ) (won : ℕ → Bool) (args : List TaskId) (i : ℕ) (found : List ℕ) : Type 0 where
  pub left : AreTasks n (drop i args)
  pub same : (y : ℕ) → (mem y found || (mem y (map task_number (drop i args)) && won y)) ≡ (mem y (map task_number args) && won y)

pub none_won : (n : ℕ) (won : ℕ → Bool) (args : List TaskId) (found : List ℕ) → AreTasks n args → found ≡ [] → WonSoFar n won args 0 found
none_won n won args found a e = record { left = a; same = λ y. ap (λ (xs : List ℕ). mem y xs || (mem y (map task_number args) && won y)) e }

both_parts : (e f m w : Bool) → (e ≡ true → w ≡ true) → ((e || f) || (m && w)) ≡ (f || ((e || m) && w))
both_parts true f m w h = ap (λ z. z) (sym (or_turned f true ∙ refl)) ∙ ap (λ z. f || z) (sym (h refl))
both_parts false f m w h = refl

no_part : (e m w : Bool) → (e ≡ true → w ≡ false) → (m && w) ≡ ((e || m) && w)
no_part true m w h = ap (λ z. m && z) (h refl) ∙ (and_turned m false ∙ sym (h refl))
no_part false m w h = refl

module _ (n : ℕ) (won : ℕ → Bool) (args : List TaskId) (i : ℕ) (found : List ℕ) (d : TaskId) (lt : i < length args) (s : WonSoFar n won args i found) where
  here : (y : ℕ) → nat_eq y (slice_index_or args i d).0 ≡ true → (b : Bool) → won (slice_index_or args i d).0 ≡ b → won y ≡ b
  here y e b h = elim (cases_eq y (slice_index_or args i d).0) [ inl same ↦ ap won same ∙ h | inr apart ↦ let no = not_same y (slice_index_or args i d).0 apart in cc ]

  opened : (y : ℕ) → (mem y found || ((nat_eq y (slice_index_or args i d).0 || mem y (map task_number (drop (i + 1) args))) && won y)) ≡ (mem y (map task_number args) && won y)
  opened y = ap (λ (ts : List TaskId). mem y found || (mem y (map task_number ts) && won y)) (sym (drop_more args i d lt)) ∙ s.same y

  pub with_won : (next : List ℕ) → true ≡ won (slice_index_or args i d).0 → ((y : ℕ) → mem y next ≡ (nat_eq y (slice_index_or args i d).0 || mem y found)) → WonSoFar n won args (i + 1) next
  with_won next e h = record {
    left = tasks_left args i d lt n s.left;
    same = λ y.
        ap (λ z. z || (mem y (map task_number (drop (i + 1) args)) && won y)) (h y)
        ∙ (both_parts (nat_eq y (slice_index_or args i d).0) (mem y found) (mem y (map task_number (drop (i + 1) args))) (won y) (λ m. here y m true (sym e)) ∙ opened y);
  }

  pub without_won : false ≡ won (slice_index_or args i d).0 → WonSoFar n won args (i + 1) found
  without_won e = record {
    left = tasks_left args i d lt n s.left;
    same = λ y.
        ap (λ z. mem y found || z) (no_part (nat_eq y (slice_index_or args i d).0) (mem y (map task_number (drop (i + 1) args))) (won y) (λ m. here y m false (sym e)))
        ∙ opened y;
  }

-- after the last argument
pub all_won : (n : ℕ) (won : ℕ → Bool) (args : List TaskId) (i : ℕ) (found : List ℕ) → drop i args ≡ [] → WonSoFar n won args i found → ((y : ℕ) → won y ≡ true → mem y (map task_number args) ≡ true) → (y : ℕ) → mem y found ≡ won y
all_won n won args i found e s only y =
    sym (or_false (mem y found))
    ∙ (ap (λ (ts : List TaskId). mem y found || (mem y (map task_number ts) && won y)) (sym e)
    ∙ (s.same y ∙ same_tests (mem y (map task_number args) && won y) (won y) (and_second (mem y (map task_number args)) (won y)) (λ w. (λ i. only y w i && won y) ∙ w)))
