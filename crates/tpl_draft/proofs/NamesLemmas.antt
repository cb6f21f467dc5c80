-- What a search among strings says of their bytes.
use Rattle.std.proofs.lemmas.Option.{get_or_from_slice_get, slice_get_within, slice_get-map, slice_get-get_or}
use Rattle.std.proofs.lemmas.List.{take_more, take_all}
use Rattle.std.proofs.lemmas.Bool.{cases_eq}
use Rattle.std.specs.Option.{option_map}
use Rattle.std.proofs.Common.{true, false, ℕ, ◌++◌, ◌<◌, ◌≤◌, get_or, ⊎_elim, arith}
use Rattle.std.specs.Prelude.{if◌then◌else◌, take, slice_get}
use Rattle.tpl_draft.specs.Names.{has_name}
use Rattle.tpl_draft.specs.Twice.{NoneTwiceBelow}
use Rattle.std.proofs.Common.{◌≡◌, suc, ◌+◌, Bool, not, ◌||◌, List, [], ◌∷◌, length, refl, sym, ap, ◌∙◌, map}
use Rattle.std.specs.List.{list_any, position, position_or_len}
use Rattle.std.specs.Prelude.{cond, nat_lt, Some, None}

module _ {A B : Type 0} (f : A → B) (p : B → Bool) where
  pub list_any-map : (xs : List A) → list_any (λ x. p (f x)) xs ≡ list_any p (map f xs)
  list_any-map [] = refl
  list_any-map (x ∷ xs) = ap (λ b. p (f x) || b) (list_any-map xs)

  -- a test of what the elements stand for
  pub through_map : (xs : List A) (b : Bool) → b ≡ list_any (λ x. p (f x)) xs → b ≡ list_any p (map f xs)
  through_map xs b e = e ∙ list_any-map xs

  pub length-map' : (xs : List A) → length xs ≡ length (map f xs)
  length-map' [] = refl
  length-map' (x ∷ xs) = ap suc (length-map' xs)

  place-map : (xs : List A) → position_or_len (λ x. p (f x)) xs ≡ position_or_len p (map f xs)
  place-map [] = refl
  place-map (x ∷ xs) = ap (λ n. cond (not (p (f x))) (1 + n) 0) (place-map xs)

  pub position-map : (xs : List A) → position (λ x. p (f x)) xs ≡ position p (map f xs)
  position-map xs =
      ap (λ n. cond (nat_lt n (length xs)) (Some n) None) (place-map xs)
      ∙ ap (λ l. cond (nat_lt (position_or_len p (map f xs)) l) (Some (position_or_len p (map f xs))) None) (length-map' xs)

-- the names below a place are numbered, and none of them stands twice
pub record NumberedSoFar (names numbered : List (List ℕ)) (i : ℕ) : Type 0 where
  pub first : numbered ≡ take i names
  pub fresh : NoneTwiceBelow names i

pub numbered_more : (names numbered new : List (List ℕ)) (i : ℕ) (name : List ℕ) (added : Bool) → NumberedSoFar names numbered i → slice_get names i ≡ Some name → added ≡ not (has_name numbered name) → new ≡ (if added then numbered ++ name ∷ [] else numbered) → added ≡ true → NumberedSoFar names new (i + 1)
numbered_more names numbered new i name added so_far here fresh made added_true = record {
  first =
      made
      ∙ (ap (λ b. if b then numbered ++ name ∷ [] else numbered) added_true
      ∙ (ap (λ l. l ++ name ∷ []) so_far.first
      ∙ (ap (λ x. take i names ++ x ∷ []) (sym (get_or_from_slice_get names i name name here))
      ∙ sym (take_more names i name (slice_get_within names i name here)))));
  fresh = λ j below twice. ⊎_elim
      (λ same.
      let at : slice_get names i ≡ Some twice.0 = ap (slice_get names) (sym same) ∙ twice.1 in
      let both : Some twice.0 ≡ Some name = sym at ∙ here in
      let one : twice.0 ≡ name = cc in
      let again : has_name numbered name ≡ true = ap (λ l. has_name l name) so_far.first ∙ (ap (λ k. has_name (take k names) name) (sym same) ∙ (ap (has_name (take j names)) (sym one) ∙ twice.2)) in
      let no_more : added ≡ false = fresh ∙ ap not again in
      absurd (cc (no_more, added_true)))
      (λ apart. so_far.fresh j (omega arith) twice)
      (cases_eq j i);
}

map-map : {A B C : Type 0} (g : A → B) (h : B → C) (xs : List A) → map (λ x. h (g x)) xs ≡ map h (map g xs)
map-map g h [] = refl
map-map g h (x ∷ xs) = ap (λ l. h (g x) ∷ l) (map-map g h xs)

pub all_named : {A B C : Type 0} (g : A → B) (h : B → C) (xs : List A) (i : ℕ) (ys : List C) → length xs ≤ i → ys ≡ map (λ x. h (g x)) (take i xs) → ys ≡ map h (map g xs)
all_named g h xs i ys le e = e ∙ (ap (map (λ x. h (g x))) (take_all i xs le) ∙ map-map g h xs)

pub map_here : {A B : Type 0} (f : A → B) (xs : List A) (i : ℕ) (x : A) → i < length xs → x ≡ get_or xs i x → slice_get (map f xs) i ≡ Some (f x)
map_here f xs i x lt is = slice_get-map f xs i ∙ (ap (option_map f) (slice_get-get_or xs i x lt) ∙ ap (λ y. Some (f y)) (sym is))
