-- Numbers of names.
use Rattle.std.proofs.Common.{◌≡◌, ℕ, zero, suc, ◌+◌, ◌<◌, ◌≤◌, Bool, true, false, not, ◌||◌, ◌++◌, List, [], ◌∷◌, length, map, nat_eq, refl, sym, ap, ◌∙◌, arith, append_assoc, append-nil, length-append}
use Rattle.std.specs.Prelude.{cond, Some, None, count_by, if◌then◌else◌}
use Rattle.std.specs.List.{list_any, position, position_or_len}
use Rattle.std.specs.Str.{bytes_eq}
use Rattle.std.proofs.lemmas.Bool.{lt-ltb, eqb-true}
use Rattle.std.proofs.lemmas.List.Sums.{sum_by-cons}
use Rattle.tpl_graph.proofs.CollectLemmas.{twice_after-append}
use Rattle.std.proofs.lemmas.List.Folds.{list_any-append}
use Rattle.std.proofs.lemmas.Slice.Eq.{bytes_eq-Decides}
use Rattle.tpl_model.proofs.Truths.{or_true, or_first, or_second}
use Rattle.tpl_draft.specs.Names.{has_name, place, or_zero, with_name, with_names, twice_after, some_twice}
use Rattle.tpl_draft.specs.Named.{numbers_from}

module _ {A : Type 0} (p : A → Bool) where
  found_within : (xs : List A) → list_any p xs ≡ true → position_or_len p xs < length xs
  found_within [] e = absurd (cc)
  found_within (x ∷ xs) e = by (found_within xs) (p x) refl
    where
      by : (list_any p xs ≡ true → position_or_len p xs < length xs) → (b : Bool) → p x ≡ b → position_or_len p (x ∷ xs) < length (x ∷ xs)
      by more true is = let at : position_or_len p (x ∷ xs) ≡ 0 = ap (λ c. cond (not c) (1 + position_or_len p xs) 0) is in omega arith
      by more false is =
          let at : position_or_len p (x ∷ xs) ≡ 1 + position_or_len p xs = ap (λ c. cond (not c) (1 + position_or_len p xs) 0) is in
          let rest : list_any p xs ≡ true = sym (ap (λ c. c || list_any p xs) is) ∙ e in
          omega (arith, more rest)

  found_after : (pre : List A) (x : A) (xs : List A) → list_any p pre ≡ false → p x ≡ true → position_or_len p (pre ++ x ∷ xs) ≡ length pre
  found_after [] x xs e is = ap (λ c. cond (not c) (1 + position_or_len p xs) 0) is
  found_after (y ∷ pre) x xs e is =
      let first : p y ≡ false = or_first (p y) (list_any p pre) e in
      let rest : list_any p pre ≡ false = or_second (p y) (list_any p pre) e in
      ap (λ c. cond (not c) (1 + position_or_len p (pre ++ x ∷ xs)) 0) first ∙ (ap (λ n. 1 + n) (found_after pre x xs rest is) ∙ omega arith)

  position_is : (xs : List A) → position_or_len p xs < length xs → or_zero (position p xs) ≡ position_or_len p xs
  position_is xs lt = ap (λ b. or_zero (cond b (Some (position_or_len p xs)) None)) (lt-ltb (position_or_len p xs) (length xs) lt)

-- a declared name has a number within the list
pub place_within : (names : List (List ℕ)) (name : List ℕ) → has_name names name ≡ true → place names name < length names
place_within names name e =
    let lt = found_within (bytes_eq name) names e in
    omega (arith, lt, position_is (bytes_eq name) names lt)

pub same_name : (x : List ℕ) → bytes_eq x x ≡ true
same_name x = (bytes_eq-Decides x x).1 refl

new_name : (pre : List (List ℕ)) (x : List ℕ) → has_name pre x ≡ false → with_name pre x ≡ pre ++ x ∷ []
new_name pre x fresh = ap (λ b. if b then pre else (pre ++ x ∷ [])) fresh

pub once_more : (pre : List (List ℕ)) (x : List ℕ) (xs : List (List ℕ)) → twice_after pre (x ∷ xs) ≡ false → twice_after (pre ++ x ∷ []) xs ≡ false
once_more pre x xs e =
    sym (ap (λ l. twice_after l xs) (new_name pre x (or_first (has_name pre x) (twice_after (with_name pre x) xs) e)))
    ∙ or_second (has_name pre x) (twice_after (with_name pre x) xs) e

-- names that stand once are numbered in their order
pub places_from : (pre xs : List (List ℕ)) → twice_after pre xs ≡ false → map (place (pre ++ xs)) xs ≡ numbers_from (length pre) (length xs)
places_from pre [] e = refl
places_from pre (x ∷ xs) e =
    let fresh : has_name pre x ≡ false = or_first (has_name pre x) (twice_after (with_name pre x) xs) e in
    let rest : map (place ((pre ++ x ∷ []) ++ xs)) xs ≡ numbers_from (length (pre ++ x ∷ [])) (length xs) = places_from (pre ++ x ∷ []) xs (once_more pre x xs e) in
    let at : position_or_len (bytes_eq x) (pre ++ x ∷ xs) ≡ length pre = found_after (bytes_eq x) pre x xs fresh (same_name x) in
    let within : position_or_len (bytes_eq x) (pre ++ x ∷ xs) < length (pre ++ x ∷ xs) = omega (arith, at, length-append pre (x ∷ xs)) in
    let first : place (pre ++ x ∷ xs) x ≡ length pre = position_is (bytes_eq x) (pre ++ x ∷ xs) within ∙ at in
    let long : length (pre ++ x ∷ []) ≡ suc (length pre) = omega (arith, length-append pre (x ∷ [])) in
    ap (λ k. k ∷ map (place (pre ++ x ∷ xs)) xs) first
    ∙ ap (λ l. length pre ∷ l) (ap (λ l. map (place l) xs) (sym (append_assoc pre (x ∷ []) xs)) ∙ (rest ∙ ap (λ k. numbers_from k (length xs)) long))

pub with_names_once : (pre xs : List (List ℕ)) → twice_after pre xs ≡ false → with_names pre xs ≡ pre ++ xs
with_names_once pre [] e = sym (append-nil pre)
with_names_once pre (x ∷ xs) e =
    ap (λ l. with_names l xs) (new_name pre x (or_first (has_name pre x) (twice_after (with_name pre x) xs) e))
    ∙ (with_names_once (pre ++ x ∷ []) xs (once_more pre x xs e) ∙ append_assoc pre (x ∷ []) xs)

once_with : (n : List (List ℕ)) (x : List ℕ) → some_twice n ≡ false → some_twice (with_name n x) ≡ false
once_with n x e = by (has_name n x) refl
  where
    by : (b : Bool) → has_name n x ≡ b → some_twice (with_name n x) ≡ false
    by true is = ap (λ c. some_twice (if c then n else (n ++ x ∷ []))) is ∙ e
    by false is =
        ap some_twice (new_name n x is)
        ∙ (twice_after-append [] n (x ∷ [])
        ∙ (ap (λ b. b || twice_after (with_names [] n) (x ∷ [])) e
        ∙ (ap (λ l. twice_after l (x ∷ [])) (with_names_once [] n e) ∙ ap (λ b. b || false) is)))

pub with_names-once : (n xs : List (List ℕ)) → some_twice n ≡ false → some_twice (with_names n xs) ≡ false
with_names-once n [] e = e
with_names-once n (x ∷ xs) e = with_names-once (with_name n x) xs (once_with n x e)

has_more : (n : List (List ℕ)) (x y : List ℕ) → has_name (n ++ x ∷ []) y ≡ (has_name n y || (bytes_eq y x || false))
has_more n x y = list_any-append (bytes_eq y) n (x ∷ [])

pub keeps_name : (n : List (List ℕ)) (x y : List ℕ) → has_name n y ≡ true → has_name (with_name n x) y ≡ true
keeps_name n x y e = by (has_name n x) refl
  where
    by : (b : Bool) → has_name n x ≡ b → has_name (with_name n x) y ≡ true
    by true is = ap (λ c. has_name (if c then n else (n ++ x ∷ [])) y) is ∙ e
    by false is = ap (λ l. has_name l y) (new_name n x is) ∙ (has_more n x y ∙ ap (λ b. b || (bytes_eq y x || false)) e)

pub keeps_names : (n xs : List (List ℕ)) (y : List ℕ) → has_name n y ≡ true → has_name (with_names n xs) y ≡ true
keeps_names n [] y e = e
keeps_names n (x ∷ xs) y e = keeps_names (with_name n x) xs y (keeps_name n x y e)

adds_name : (n : List (List ℕ)) (x y : List ℕ) → bytes_eq y x ≡ true → has_name (with_name n x) y ≡ true
adds_name n x y e = by (has_name n x) refl
  where
    same : y ≡ x
    same = (bytes_eq-Decides y x).0 e

    by : (b : Bool) → has_name n x ≡ b → has_name (with_name n x) y ≡ true
    by true is = ap (λ c. has_name (if c then n else (n ++ x ∷ [])) y) is ∙ (ap (has_name n) same ∙ is)
    by false is = ap (λ l. has_name l y) (new_name n x is) ∙ (has_more n x y ∙ (ap (λ b. has_name n y || (b || false)) e ∙ or_true (has_name n y)))

pub adds_names : (n xs : List (List ℕ)) (y : List ℕ) → has_name xs y ≡ true → has_name (with_names n xs) y ≡ true
adds_names n [] y e = absurd (cc)
adds_names n (x ∷ xs) y e = by (adds_names (with_name n x) xs y) (bytes_eq y x) refl
  where
    by : (has_name xs y ≡ true → has_name (with_names (with_name n x) xs) y ≡ true) → (b : Bool) → bytes_eq y x ≡ b → has_name (with_names (with_name n x) xs) y ≡ true
    by more true is = keeps_names (with_name n x) xs y (adds_name n x y is)
    by more false is = more (sym (ap (λ b. b || has_name xs y) is) ∙ e)

abbrev one_if : Bool → ℕ
one_if b = cond b 1 0

-- each number stands once among numbers that count up
none_below : (s n count : ℕ) → s < n → count_by (nat_eq s) (numbers_from n count) ≤ 0
none_below s n zero lt = omega arith
none_below s n (suc count) lt = by (none_below s (suc n) count (omega arith)) (nat_eq s n) refl
  where
    by : count_by (nat_eq s) (numbers_from (suc n) count) ≤ 0 → (b : Bool) → nat_eq s n ≡ b → count_by (nat_eq s) (numbers_from n (suc count)) ≤ 0
    by more true is = let same = eqb-true s n is in absurd (omega arith)
    by more false is =
        let one : one_if (nat_eq s n) ≡ 0 = ap one_if is in
        omega (arith, one, sum_by-cons (λ x. cond (nat_eq s x) 1 0) n (numbers_from (suc n) count), more)

pub at_most_once : (s n count : ℕ) → count_by (nat_eq s) (numbers_from n count) ≤ 1
at_most_once s n zero = omega arith
at_most_once s n (suc count) = by (at_most_once s (suc n) count) (nat_eq s n) refl
  where
    by : count_by (nat_eq s) (numbers_from (suc n) count) ≤ 1 → (b : Bool) → nat_eq s n ≡ b → count_by (nat_eq s) (numbers_from n (suc count)) ≤ 1
    by more true is =
        let same = eqb-true s n is in
        let one : one_if (nat_eq s n) ≡ 1 = ap one_if is in
        omega (arith, one, sum_by-cons (λ x. cond (nat_eq s x) 1 0) n (numbers_from (suc n) count), none_below s (suc n) count (omega arith))
    by more false is =
        let one : one_if (nat_eq s n) ≡ 0 = ap one_if is in
        omega (arith, one, sum_by-cons (λ x. cond (nat_eq s x) 1 0) n (numbers_from (suc n) count), more)
