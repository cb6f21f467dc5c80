-- How WhenAll tasks may end, argument by argument.
use Rattle.std.proofs.Common.{◌≡◌, ℕ, ◌+◌, ◌<◌, ◌&&◌, ◌||◌, not, Bool, true, false, List, [], ◌∷◌, drop, length, map, refl, sym, ap, ◌∙◌, slice_index_or, arith}
use Rattle.std.proofs.lemmas.List.{drop_more}
use Rattle.tpl_model.proofs.Truths.{and_assoc, and_true}
use Rattle.tpl_model.specs.declared.finals.Final.{Final}
use Rattle.tpl_model.specs.declared.finals.Final.TheVariants.{RanToCompletion, Canceled, Faulted}
use Rattle.tpl_model.specs.declared.ids.TaskId.{TaskId}
use Rattle.tpl_model.specs.Finals.{has, is_final}
use Rattle.tpl_model.specs.Graph.{some_in}
use Rattle.tpl_model.specs.Certificate.{PlainRow, row}
use Rattle.tpl_draft.specs.Ids.{task_number}
use Rattle.tpl_laws.specs.RowTests.{all_in, all_may_end, some_end}
use Rattle.tpl_graph.specs.Roles.{AreTasks}
use Rattle.tpl_checker.specs.declared.all_ends.AllEnds.{AllEnds}
use Rattle.tpl_checker.specs.AllEnds.{ended_together, no_argument, with_argument}
use Rattle.tpl_checker.proofs.Basics.{tasks_left}

-- how the task may end by the arguments so far and these
abbrev end_with : AllEnds → List PlainRow → List ℕ → Final → Bool
end_with a rows xs RanToCompletion = a.ran && all_in (λ x. has (row rows x).ends RanToCompletion) xs
end_with a rows xs Canceled =
    (a.none_faulted && all_in (λ x. some_end (λ f. not (is_final f Faulted) && has (row rows x).ends f)) xs) && (a.canceled || some_in (λ x. has (row rows x).ends Canceled) xs)
end_with a rows xs Faulted = (a.final_all && all_in (λ x. some_end (has (row rows x).ends)) xs) && (a.faulted || some_in (λ x. has (row rows x).ends Faulted) xs)

canceled_with : (n k r c p q : Bool) → (((n && (r || c)) && p) && ((k || c) || q)) ≡ ((n && ((r || (c || false)) && p)) && (k || (c || q)))
canceled_with n k r c p q = grind arith

faulted_with : (a b r c f p q : Bool) → (((a && (r || (c || f))) && p) && ((b || f) || q)) ≡ ((a && ((r || (c || f)) && p)) && (b || (f || q)))
faulted_with a b r c f p q = grind arith

one_with : (a : AllEnds) (rows : List PlainRow) (x : ℕ) (xs : List ℕ) (f : Final) → end_with (with_argument a (row rows x).ends) rows xs f ≡ end_with a rows (x ∷ xs) f
one_with a rows x xs RanToCompletion = and_assoc a.ran (row rows x).ends.ran (all_in (λ y. has (row rows y).ends RanToCompletion) xs)
one_with a rows x xs Canceled =
    canceled_with a.none_faulted a.canceled (row rows x).ends.ran (row rows x).ends.canceled (all_in (λ y. some_end (λ f. not (is_final f Faulted) && has (row rows y).ends f)) xs) (some_in (λ y. has (row rows y).ends Canceled) xs)
one_with a rows x xs Faulted =
    faulted_with a.final_all a.faulted (row rows x).ends.ran (row rows x).ends.canceled (row rows x).ends.faulted (all_in (λ y. some_end (has (row rows y).ends)) xs) (some_in (λ y. has (row rows y).ends Faulted) xs)

none_with : (rows : List PlainRow) (xs : List ℕ) (f : Final) → end_with no_argument rows xs f ≡ all_may_end rows xs f
none_with rows xs RanToCompletion = refl
none_with rows xs Canceled = refl
none_with rows xs Faulted = refl

with_none : (n k : Bool) → (n && k) ≡ ((n && true) && (k || false))
with_none n k = grind arith

all_with : (a : AllEnds) (rows : List PlainRow) (f : Final) → has (ended_together a) f ≡ end_with a rows [] f
all_with a rows RanToCompletion = sym (and_true a.ran)
all_with a rows Canceled = with_none a.none_faulted a.canceled
all_with a rows Faulted = with_none a.final_all a.faulted

-- by the first i arguments, each of which is one of the first n tasks
pub record EndsByFirst (n : ℕ) (rows : List PlainRow) (args : List TaskId) (i : ℕ) (found : AllEnds) : Type 0 where
  pub left : AreTasks n (drop i args)
  pub same : (f : Final) → end_with found rows (map task_number (drop i args)) f ≡ all_may_end rows (map task_number args) f

pub by_none : (n : ℕ) (rows : List PlainRow) (args : List TaskId) (found : AllEnds) → AreTasks n args → found ≡ no_argument → EndsByFirst n rows args 0 found
by_none n rows args found a e = record { left = a; same = λ f. ap (λ (z : AllEnds). end_with z rows (map task_number args) f) e ∙ none_with rows (map task_number args) f }

pub by_next : {n : ℕ} {rows : List PlainRow} {args : List TaskId} {i : ℕ} {found : AllEnds} (next : AllEnds) (d : TaskId) → i < length args → EndsByFirst n rows args i found → next ≡ with_argument found (row rows (slice_index_or args i d).0).ends → EndsByFirst n rows args (i + 1) next
by_next {n} {rows} {args} {i} {found} next d lt s e = record {
  left = tasks_left args i d lt n s.left;
  same = λ f.
      ap (λ (z : AllEnds). end_with z rows (map task_number (drop (i + 1) args)) f) e
      ∙ (one_with found rows (slice_index_or args i d).0 (map task_number (drop (i + 1) args)) f
      ∙ (ap (λ (ts : List TaskId). end_with found rows (map task_number ts) f) (sym (drop_more args i d lt)) ∙ s.same f));
}

pub by_all : {n : ℕ} {rows : List PlainRow} {args : List TaskId} {i : ℕ} {found : AllEnds} → drop i args ≡ [] → EndsByFirst n rows args i found → (f : Final) → has (ended_together found) f ≡ all_may_end rows (map task_number args) f
by_all {n} {rows} {args} {i} {found} e s f = all_with found rows f ∙ (ap (λ (ts : List TaskId). end_with found rows (map task_number ts) f) (sym e) ∙ s.same f)
