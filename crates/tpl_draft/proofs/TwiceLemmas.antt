-- A loop over names that looks for one that stands before it too.
use Rattle.std.proofs.Common.{◌≡◌, ℕ, suc, ◌+◌, ◌<◌, ◌≤◌, Bool, true, false, not, ◌||◌, ◌++◌, List, [], ◌∷◌, length, drop, get_or, sym, ap, ◌∙◌, add-one, drop-cons, arith}
use Rattle.std.proofs.lemmas.List.{drop_all, take_all}
use Rattle.std.proofs.lemmas.Option.{get_or_from_slice_get, slice_get_within}
use Rattle.std.specs.Prelude.{slice_get, Some, if◌then◌else◌}
use Rattle.std.proofs.lemmas.Bool.{not-false, not-true}
use Rattle.tpl_draft.specs.Names.{has_name, with_name, twice_after, some_twice}
use Rattle.tpl_draft.specs.Twice.{IsTwiceAt, NoneTwiceBelow}
use Rattle.tpl_draft.proofs.NamesLemmas.{NumberedSoFar, numbered_more}

pub record NumberedTo (names numbered : List (List ℕ)) (i : ℕ) : Type 0 where
  pub so_far : NumberedSoFar names numbered i
  pub left : twice_after numbered (drop i names) ≡ some_twice names

-- no name is numbered yet
pub none_numbered : (names numbered : List (List ℕ)) → numbered ≡ [] → NumberedTo names numbered 0
none_numbered names numbered e = record {
  so_far = record { first = e; fresh = λ j lt _. absurd (omega arith) };
  left = ap (λ l. twice_after l names) e;
}

left_at : (names numbered : List (List ℕ)) (i : ℕ) (name : List ℕ) → slice_get names i ≡ Some name → NumberedTo names numbered i → (has_name numbered name || twice_after (with_name numbered name) (drop (i + 1) names)) ≡ some_twice names
left_at names numbered i name here at =
    let lt : i < length names = slice_get_within names i name here in
    let same : get_or names i name ≡ name = get_or_from_slice_get names i name name here in
    let e : drop i names ≡ name ∷ drop (i + 1) names = rw (add-one, drop-cons names i name) (ap (λ y. y ∷ drop (suc i) names) same) in
    sym (ap (twice_after numbered) e) ∙ at.left

pub one_more : (names numbered new : List (List ℕ)) (i : ℕ) (name : List ℕ) (added : Bool) → NumberedTo names numbered i → slice_get names i ≡ Some name → added ≡ not (has_name numbered name) → new ≡ (if added then numbered ++ name ∷ [] else numbered) → added ≡ true → NumberedTo names new (i + 1)
one_more names numbered new i name added at here fresh made is = record {
  so_far = numbered_more names numbered new i name added at.so_far here fresh made is;
  left =
      let none : has_name numbered name ≡ false = not-true (has_name numbered name) (sym fresh ∙ is) in
      let new_is : new ≡ with_name numbered name = made ∙ (ap (λ b. if b then numbered ++ name ∷ [] else numbered) is ∙ ap (λ b. if b then numbered else (numbered ++ name ∷ [])) (sym none)) in
      ap (λ l. twice_after l (drop (i + 1) names)) new_is
      ∙ (ap (λ b. b || twice_after (with_name numbered name) (drop (i + 1) names)) (sym none)
      ∙ left_at names numbered i name here at);
}

pub is_twice : (names numbered : List (List ℕ)) (i : ℕ) (name : List ℕ) (added : Bool) → NumberedTo names numbered i → slice_get names i ≡ Some name → added ≡ not (has_name numbered name) → added ≡ false → some_twice names ≡ true
is_twice names numbered i name added at here fresh is =
    let some : has_name numbered name ≡ true = not-false (has_name numbered name) (sym fresh ∙ is) in
    sym (left_at names numbered i name here at)
    ∙ ap (λ b. b || twice_after (with_name numbered name) (drop (i + 1) names)) some

pub first_twice : (names numbered : List (List ℕ)) (i : ℕ) (name : List ℕ) (added : Bool) → NumberedTo names numbered i → slice_get names i ≡ Some name → added ≡ not (has_name numbered name) → added ≡ false → IsTwiceAt names i × NoneTwiceBelow names i
first_twice names numbered i name added at here fresh is =
    let some : has_name numbered name ≡ true = not-false (has_name numbered name) (sym fresh ∙ is) in
    ((name, here, ap (λ l. has_name l name) (sym at.so_far.first) ∙ some), at.so_far.fresh)

pub all_numbered : (names numbered : List (List ℕ)) (i : ℕ) → length names ≤ i → NumberedTo names numbered i → numbered ≡ names
all_numbered names numbered i le at = at.so_far.first ∙ take_all i names le

pub none_twice : (names numbered : List (List ℕ)) (i : ℕ) → length names ≤ i → NumberedTo names numbered i → some_twice names ≡ false
none_twice names numbered i le at = sym at.left ∙ ap (twice_after numbered) (drop_all i names le)
