-- Lists whose elements are moved to the end of another, one by one; and those that come to one of two others.
use Rattle.std.proofs.Common.{◌≡◌, ◌∙◌, List, [], ◌∷◌, ◌++◌, ap, sym, subst, length, map, append_assoc, arith}
use Rattle.std.specs.List.Sorted.{IsPermutation}
use Rattle.std.proofs.lemmas.List.{map-append, append-nil}
use Rattle.std.proofs.lemmas.List.Sorted.{IsPermutation-sym, IsPermutation-trans, IsPermutation-append_left, IsPermutation-middle, IsPermutation-to_front}

first_moved : {A B C : Type 0} (f : A → C) (g : B → C) (xs : List A) (x : A) (y : B) (ys : List B) (all : List C) → f x ≡ g y → map f xs ++ map g (y ∷ ys) ≡ all
    → map f (xs ++ x ∷ []) ++ map g ys ≡ all
first_moved f g xs x y ys all same was =
    ap (λ l. l ++ map g ys) (map-append f xs (x ∷ [])) ∙ append_assoc (map f xs) (f x ∷ []) (map g ys) ∙ ap (λ z. map f xs ++ z ∷ map g ys) same ∙ was

-- the first of the second list has become the last of the first list
pub moved : {A B C : Type 0} (f : A → C) (g : B → C) (xs now : List A) (x : A) (y : B) (ys rest : List B) (all : List C) → f x ≡ g y → now ≡ xs ++ x ∷ [] → ys ≡ y ∷ rest
    → map f xs ++ map g ys ≡ all → map f now ++ map g rest ≡ all
moved f g xs now x y ys rest all same longer left was =
    ap (λ l. map f l ++ map g rest) longer ∙ first_moved f g xs x y rest all same (subst (λ l. map f xs ++ map g l ≡ all) left was)

-- none is left in the second list
pub all_moved : {A B C : Type 0} (f : A → C) (g : B → C) (xs : List A) (ys : List B) (all : List C) → length ys ≡ 0 → map f xs ++ map g ys ≡ all → map f xs ≡ all
all_moved f g xs [] all none was = sym (append-nil (map f xs)) ∙ was
all_moved f g xs (y ∷ ys) all none was = absurd (omega (arith, none))

map_longer : {A B : Type 0} (f : A → B) (xs now : List A) (x : A) (a : B) → now ≡ xs ++ x ∷ [] → f x ≡ a → map f now ≡ map f xs ++ a ∷ []
map_longer f xs now x a longer is = ap (λ l. map f l) longer ∙ map-append f xs (x ∷ []) ∙ ap (λ z. map f xs ++ z ∷ []) is

-- one more at the end of the first list
pub first_longer : {A B : Type 0} (f : A → B) (xs now : List A) (x : A) (a : B) (ys : List B) → now ≡ xs ++ x ∷ [] → f x ≡ a → IsPermutation (a ∷ (map f xs ++ ys)) (map f now ++ ys)
first_longer f xs now x a ys longer is =
    subst (λ l. IsPermutation (a ∷ (map f xs ++ ys)) l) (sym (ap (λ l. l ++ ys) (map_longer f xs now x a longer is) ∙ append_assoc (map f xs) (a ∷ []) ys))
    (IsPermutation-sym (map f xs ++ a ∷ ys) (a ∷ (map f xs ++ ys)) (IsPermutation-middle (map f xs) a ys))

-- one more at the end of the second list
pub second_longer : {A B : Type 0} (f : A → B) (xs : List B) (ys now : List A) (y : A) (a : B) → now ≡ ys ++ y ∷ [] → f y ≡ a → IsPermutation (a ∷ (xs ++ map f ys)) (xs ++ map f now)
second_longer f xs ys now y a longer is =
    subst (λ l. IsPermutation (a ∷ (xs ++ map f ys)) l) (append_assoc xs (map f ys) (a ∷ []) ∙ ap (λ l. xs ++ l) (sym (map_longer f ys now y a longer is)))
    (IsPermutation-sym ((xs ++ map f ys) ++ a ∷ []) (a ∷ (xs ++ map f ys)) (IsPermutation-to_front (xs ++ map f ys) a))

-- the first of those that are left has come to the others
pub one_came : {A : Type 0} (a : A) (all came now left rest : List A) → left ≡ a ∷ rest → IsPermutation (a ∷ came) now → IsPermutation all (came ++ left) → IsPermutation all (now ++ rest)
one_came a all came now left rest next one was =
    IsPermutation-trans all (came ++ left) (now ++ rest) was
    (IsPermutation-trans (came ++ left) (a ∷ (came ++ rest)) (now ++ rest) (subst (λ l. IsPermutation (came ++ l) (a ∷ (came ++ rest))) (sym next) (IsPermutation-middle came a rest))
    (IsPermutation-append_left rest (a ∷ came) now one))
