-- The first task that has not ended as is said of it.
use Rattle.std.proofs.Common.{◌≡◌, ℕ, ◌+◌, ◌<◌, ◌≤◌, Bool, true, false, if◌then◌else◌, Option, Some, None, List, [], ◌∷◌, ◌++◌, length, get_or, take, refl, sym, subst, arith}
use Rattle.std.specs.Prelude.{nat_lt}
use Rattle.std.specs.List.{All, Contains}
use Rattle.std.proofs.lemmas.Bool.{ltb-true, ltb-false}
use Rattle.std.proofs.lemmas.List.{take_all, take_more}
use Rattle.std.proofs.lemmas.List.Elements.{All-nil, All-append, Contains-append_left, Contains-append_right}
use Rattle.tpl_model.specs.declared.finals.Final.{Final}
use Rattle.tpl_model.specs.declared.ids.TaskId.{TaskId}
use Rattle.tpl_model.specs.Graph.{TaskGraph}
use Rattle.tpl_model.specs.declared.event.Event.{Event}
use Rattle.tpl_audit.specs.declared.verdict.OtherEnd.{OtherEnd}
use Rattle.tpl_audit.specs.Ending.{EndsSo, IsOtherEnd, FirstOtherEnd, first_of}

module _ (g : TaskGraph) (v : List Bool) (h : List Event) where
  -- the first one of two lists
  module _ (xs ys : List (TaskId × Final)) where
    of_both : (zs : List (TaskId × Final)) (one : OtherEnd) → IsOtherEnd g v h zs one → Contains (xs ++ ys) (one.task, one.said) → All (λ said. said.0.0 < one.task.0 → EndsSo g v h said) (xs ++ ys) → IsOtherEnd g v h (xs ++ ys) one
    of_both zs one is there earlier = record { task = is.task; said = there; differs = is.differs; stands = is.stands; earlier = earlier }

    stays : (one : OtherEnd) → IsOtherEnd g v h xs one → All (λ said. said.0.0 < one.task.0 → EndsSo g v h said) ys → IsOtherEnd g v h (xs ++ ys) one
    stays one is rest = of_both xs one is (Contains-append_left xs ys (one.task, one.said) is.said) (All-append (λ said. said.0.0 < one.task.0 → EndsSo g v h said) xs ys is.earlier rest)

    comes : (other : OtherEnd) → IsOtherEnd g v h ys other → All (λ said. said.0.0 < other.task.0 → EndsSo g v h said) xs → IsOtherEnd g v h (xs ++ ys) other
    comes other is first = of_both ys other is (Contains-append_right xs ys (other.task, other.said) is.said) (All-append (λ said. said.0.0 < other.task.0 → EndsSo g v h said) xs ys first is.earlier)

    pub first_of_both : (one other : Option OtherEnd) → FirstOtherEnd g v h xs one → FirstOtherEnd g v h ys other → FirstOtherEnd g v h (xs ++ ys) (first_of one other)
    first_of_both None None all rest = All-append (EndsSo g v h) xs ys all rest
    first_of_both (Some one) None is rest = stays one is (λ k d lt early. rest k d lt)
    first_of_both None (Some other) all is = comes other is (λ k d lt early. all k d lt)
    first_of_both (Some one) (Some other) is also = here (nat_lt other.task.0 one.task.0) refl
      where
        here : (b : Bool) → nat_lt other.task.0 one.task.0 ≡ b → FirstOtherEnd g v h (xs ++ ys) (if b then Some other else Some one)
        here true e = let before = ltb-true other.task.0 one.task.0 e in comes other also (λ k d lt early. is.earlier k d lt (omega (arith, before, early)))
        here false e = let behind = ltb-false other.task.0 one.task.0 e in stays one is (λ k d lt early. also.earlier k d lt (omega (arith, behind, early)))

  pub none_yet : (ended : List (TaskId × Final)) → FirstOtherEnd g v h (take 0 ended) None
  none_yet [] = All-nil (EndsSo g v h)
  none_yet (x ∷ ended) = All-nil (EndsSo g v h)

  pub one_more : (ended : List (TaskId × Final)) (n : ℕ) (d : TaskId × Final) (one other : Option OtherEnd) → n < length ended → FirstOtherEnd g v h (take n ended) one → FirstOtherEnd g v h (get_or ended n d ∷ []) other → FirstOtherEnd g v h (take (n + 1) ended) (first_of one other)
  one_more ended n d one other lt first next =
      subst (λ xs. FirstOtherEnd g v h xs (first_of one other)) (sym (take_more ended n d lt)) (first_of_both (take n ended) (get_or ended n d ∷ []) one other first next)

  pub of_all : (ended : List (TaskId × Final)) (n : ℕ) (one : Option OtherEnd) → length ended ≤ n → FirstOtherEnd g v h (take n ended) one → FirstOtherEnd g v h ended one
  of_all ended n one le first = subst (λ xs. FirstOtherEnd g v h xs one) (take_all n ended le) first
