-- Tests, members and kinds.
use Rattle.std.proofs.Common.{◌≡◌, ℕ, zero, suc, ◌+◌, ◌<◌, ◌≤◌, ◌&&◌, ◌||◌, inl, inr, Bool, true, false, Option, Some, None, List, [], ◌∷◌, refl, sym, ap, ◌∙◌, subst, length, drop, map, slice_index_or, arith}
use Rattle.std.specs.Option.{option_map}
use Rattle.std.proofs.lemmas.Bool.{and_from}
use Rattle.std.proofs.lemmas.List.{drop_more}
use Rattle.tpl_model.proofs.MemberLemmas.{mem_here, mem_split, mem_there}
use Rattle.tpl_model.proofs.Truths.{and_assoc, same_tests, true_false}
use Rattle.tpl_model.specs.declared.finals.Final.{Final}
use Rattle.tpl_model.specs.declared.finals.Final.TheVariants.{RanToCompletion, Canceled, Faulted}
use Rattle.tpl_model.specs.declared.ids.TaskId.{TaskId}
use Rattle.tpl_model.specs.Members.{mem}
use Rattle.tpl_model.specs.TaskSet.{IsSubset}
use Rattle.tpl_model.specs.Finals.{has, is_final}
use Rattle.tpl_model.specs.Graph.{some_in}
use Rattle.tpl_model.specs.Certificate.{PlainRow, Row, plain, row, one_ends}
use Rattle.tpl_model.specs.TokenRules.{whole_row}
use Rattle.tpl_draft.specs.Ids.{task_number}
use Rattle.tpl_laws.specs.RowTests.{all_in, implies, each_end, some_end}
use Rattle.tpl_graph.specs.Roles.{AreTasks}

all_here : (test : ℕ → Bool) (xs : List ℕ) → ((x : ℕ) → mem x xs ≡ true → test x ≡ true) → all_in test xs ≡ true
all_here test [] h = refl
all_here test (y ∷ ys) h = and_from (test y) (all_in test ys) (h y (mem_here y ys)) (all_here test ys (λ x m. h x (mem_there x y ys m)))

each_here : (test : ℕ → Bool) (xs : List ℕ) → all_in test xs ≡ true → (x : ℕ) → mem x xs ≡ true → test x ≡ true
each_here test [] e x m = true_false (sym m)
each_here test (y ∷ ys) e x m = elim (mem_split x y ys m) [
  | inl q ↦ subst (λ z. test z ≡ true) (sym q) (first (test y) e)
  | inr q ↦ each_here test ys (rest (test y) e) x q
]
  where
    first : (b : Bool) → b && all_in test ys ≡ true → b ≡ true
    first true f = refl
    first false f = true_false (sym f)

    rest : (b : Bool) → b && all_in test ys ≡ true → all_in test ys ≡ true
    rest true f = f
    rest false f = true_false (sym f)

-- a set is part of another just where its members pass the other's test
pub subset_test : (r : Bool) (set allowed : List ℕ) (test : ℕ → Bool) → (r ≡ true → IsSubset set allowed) → (IsSubset set allowed → r ≡ true) → ((x : ℕ) → mem x allowed ≡ test x) → r ≡ all_in test set
subset_test r set allowed test to back same =
    same_tests r (all_in test set)
    (λ e. all_here test set (λ x m. sym (same x) ∙ to e x m))
    (λ e. back (λ x m. same x ∙ each_here test set e x m))

-- a reader's answer that keeps the law of an option is the option
pub option_is : (P : ℕ → Type 0) (found : Option TaskId) (o : Option ℕ) → ((p : ℕ) → o ≡ Some p → P p) → ((p : ℕ) → P p → o ≡ Some p) → ((t : TaskId) → found ≡ Some t → P t.0) → (found ≡ None → (p : ℕ) → P p → ⊥) → option_map task_number found ≡ o
option_is P (Some t) o to back some none = sym (back t.0 (some t refl))
option_is P None None to back some none = refl
option_is P None (Some p) to back some none = absurd (none refl p (to p refl))

-- tests that agree on the members of a list agree on the list
pub some_in_same : (p q : ℕ → Bool) (xs : List ℕ) → ((x : ℕ) → mem x xs ≡ true → p x ≡ q x) → some_in p xs ≡ some_in q xs
some_in_same p q [] e = refl
some_in_same p q (x ∷ xs) e = ap (λ z. z || some_in p xs) (e x (mem_here x xs)) ∙ ap (λ z. q x || z) (some_in_same p q xs (λ y m. e y (mem_there y x xs m)))

pub all_in_same : (p q : ℕ → Bool) (xs : List ℕ) → ((x : ℕ) → mem x xs ≡ true → p x ≡ q x) → all_in p xs ≡ all_in q xs
all_in_same p q [] e = refl
all_in_same p q (x ∷ xs) e = ap (λ z. z && all_in p xs) (e x (mem_here x xs)) ∙ ap (λ z. q x && z) (all_in_same p q xs (λ y m. e y (mem_there y x xs m)))

pub all_true : (p : ℕ → Bool) (xs : List ℕ) → ((x : ℕ) → p x ≡ true) → all_in p xs ≡ true
all_true p [] e = refl
all_true p (x ∷ xs) e = ap (λ z. z && all_in p xs) (e x) ∙ all_true p xs e

pub or_assoc : (a b c : Bool) → ((a || b) || c) ≡ (a || (b || c))
or_assoc a b c = grind arith

pub implies_or : (a b o : Bool) → implies (a || b) o ≡ (implies a o && implies b o)
implies_or a b o = grind arith

pub implies_and : (a b o : Bool) → implies (a && b) o ≡ implies a (implies b o)
implies_and a b o = grind arith

-- a test of three ways to end
pub implies_each : (p q r : Final → Bool) (o : Bool) → ((f : Final) → r f ≡ (p f && q f)) → implies (some_end r) o ≡ each_end (λ f. implies (p f) (implies (q f) o))
implies_each p q r o e =
    implies_or (r RanToCompletion) (r Canceled || r Faulted) o
    ∙ (ap (λ z. implies (r RanToCompletion) o && z) (implies_or (r Canceled) (r Faulted) o)
    ∙ λ i. one RanToCompletion i && (one Canceled i && one Faulted i))
  where
    one : (f : Final) → implies (r f) o ≡ implies (p f) (implies (q f) o)
    one f = ap (λ z. implies z o) (e f) ∙ implies_and (p f) (q f) o

pub some_end_same : (p q : Final → Bool) → ((f : Final) → p f ≡ q f) → some_end p ≡ some_end q
some_end_same p q e = λ i. e RanToCompletion i || (e Canceled i || e Faulted i)

pub each_end_same : (p q : Final → Bool) → ((f : Final) → p f ≡ q f) → each_end p ≡ each_end q
each_end_same p q e = λ i. e RanToCompletion i && (e Canceled i && e Faulted i)

pub drop_all : {A : Type 0} (xs : List A) (i : ℕ) → length xs ≤ i → drop i xs ≡ []
drop_all [] zero le = refl
drop_all [] (suc i) le = refl
drop_all (x ∷ xs) zero le = absurd (omega arith)
drop_all (x ∷ xs) (suc i) le = drop_all xs i (omega arith)

-- the second of two tests, where the first doesn't hold
pub or_else_if : (a b c r s : Bool) → r ≡ (a || b) → r ≡ false → s ≡ c → s ≡ (a || (b || c))
or_else_if true b c r s e f h = true_false (sym e ∙ f)
or_else_if false true c r s e f h = true_false (sym e ∙ f)
or_else_if false false c r s e f h = h

-- a WhenAny task may end where one of its arguments may
joined_ends : (a b c d e f : Bool) → ((a || d) || ((b || e) || (c || f))) ≡ ((a || (b || c)) || (d || (e || f)))
joined_ends a b c d e f = grind arith

pub some_end_of_one : (rows : List PlainRow) (xs : List ℕ) → some_end (one_ends xs rows) ≡ some_in (λ x. some_end (has (row rows x).ends)) xs
some_end_of_one rows [] = refl
some_end_of_one rows (x ∷ xs) =
    joined_ends (row rows x).ends.ran (row rows x).ends.canceled (row rows x).ends.faulted (one_ends xs rows RanToCompletion) (one_ends xs rows Canceled) (one_ends xs rows Faulted)
    ∙ ap (λ z. some_end (has (row rows x).ends) || z) (some_end_of_one rows xs)

pub only_ran : (r q : Bool) → r ≡ q → (f : Final) → has (record { ran = r; canceled = false; faulted = false }) f ≡ (is_final f RanToCompletion && q)
only_ran r q e RanToCompletion = e
only_ran r q e Canceled = refl
only_ran r q e Faulted = refl

-- members of a set that pass a test, as a test of the set itself
pub members_of_it : (test : ℕ → Bool) (xs : List ℕ) → all_in (λ x. mem x xs && test x) xs ≡ all_in test xs
members_of_it test xs = all_in_same (λ x. mem x xs && test x) test xs (λ x m. ap (λ z. z && test x) m)

-- the next of the tasks, and those after it
module _ (tasks : List TaskId) (i : ℕ) (d : TaskId) (lt : i < length tasks) where
  pub next_task : (n : ℕ) → AreTasks n (drop i tasks) → (slice_index_or tasks i d).0 < n
  next_task n a = (subst (λ (ts : List TaskId). AreTasks n ts) (drop_more tasks i d lt) a).0

  pub tasks_left : (n : ℕ) → AreTasks n (drop i tasks) → AreTasks n (drop (i + 1) tasks)
  tasks_left n a = (subst (λ (ts : List TaskId). AreTasks n ts) (drop_more tasks i d lt) a).1

  pub some_more : (p : ℕ → Bool) (b : Bool) → ((b || p (slice_index_or tasks i d).0) || some_in p (map task_number (drop (i + 1) tasks))) ≡ (b || some_in p (map task_number (drop i tasks)))
  some_more p b =
      or_assoc b (p (slice_index_or tasks i d).0) (some_in p (map task_number (drop (i + 1) tasks)))
      ∙ ap (λ (ts : List TaskId). b || some_in p (map task_number ts)) (sym (drop_more tasks i d lt))

  pub all_more : (p : ℕ → Bool) (b : Bool) → ((b && p (slice_index_or tasks i d).0) && all_in p (map task_number (drop (i + 1) tasks))) ≡ (b && all_in p (map task_number (drop i tasks)))
  all_more p b =
      and_assoc b (p (slice_index_or tasks i d).0) (all_in p (map task_number (drop (i + 1) tasks)))
      ∙ ap (λ (ts : List TaskId). b && all_in p (map task_number ts)) (sym (drop_more tasks i d lt))

-- the plain row of a task
pub plain_row : (rows : List Row) (t : ℕ) → (whole_row rows t).row ≡ row (plain rows) t
plain_row [] t = refl
plain_row (r ∷ rows) zero = refl
plain_row (r ∷ rows) (suc t) = plain_row rows t
