-- Lists beside each other.
use Rattle.std.proofs.Common.{◌≡◌, ℕ, zero, suc, ◌+◌, ◌<◌, List, [], ◌∷◌, ◌++◌, length, map, get_or, take, drop, refl, sym, ap, ◌∙◌, arith}
use Rattle.std.specs.Prelude.{Bool, ◌&&◌}
use Rattle.std.specs.List.{AllZip, list_all}

pub zip_push : {A B : Type 0} (R : A → B → Type 0) (xs : List A) (ys : List B) (x : A) (y : B) → AllZip R xs ys → R x y → AllZip R (xs ++ x ∷ []) (ys ++ y ∷ [])
zip_push R [] [] x y z r = (r, tt)
zip_push R [] (v ∷ ys) x y z r = absurd z
zip_push R (u ∷ xs) [] x y z r = absurd z
zip_push R (u ∷ xs) (v ∷ ys) x y z r = (z.0, zip_push R xs ys x y z.1 r)

pub zip_append : {A B : Type 0} (R : A → B → Type 0) (xs us : List A) (ys vs : List B) → AllZip R xs ys → AllZip R us vs → AllZip R (xs ++ us) (ys ++ vs)
zip_append R [] us [] vs z w = w
zip_append R [] us (y ∷ ys) vs z w = absurd z
zip_append R (x ∷ xs) us [] vs z w = absurd z
zip_append R (x ∷ xs) us (y ∷ ys) vs z w = (z.0, zip_append R xs us ys vs z.1 w)

pub zip_length : {A B : Type 0} (R : A → B → Type 0) (xs : List A) (ys : List B) → AllZip R xs ys → length xs ≡ length ys
zip_length R [] [] z = refl
zip_length R [] (y ∷ ys) z = absurd z
zip_length R (x ∷ xs) [] z = absurd z
zip_length R (x ∷ xs) (y ∷ ys) z = ap suc (zip_length R xs ys z.1)

pub map-append : {A B : Type 0} (f : A → B) (xs ys : List A) → map f (xs ++ ys) ≡ map f xs ++ map f ys
map-append f [] ys = refl
map-append f (x ∷ xs) ys = ap (λ z. f x ∷ z) (map-append f xs ys)

pub map-length : {A B : Type 0} (f : A → B) (xs : List A) → length (map f xs) ≡ length xs
map-length f [] = refl
map-length f (x ∷ xs) = ap suc (map-length f xs)

pub list_all-map : {A B : Type 0} (test : B → Bool) (f : A → B) (xs : List A) → list_all test (map f xs) ≡ list_all (λ x. test (f x)) xs
list_all-map test f [] = refl
list_all-map test f (x ∷ xs) = ap (λ z. test (f x) && z) (list_all-map test f xs)

-- a list, cut at one of its items
pub cut_at_item : {A : Type 0} (xs : List A) (i : ℕ) (x : A) → i < length xs → x ≡ get_or xs i x → xs ≡ take i xs ++ (x ∷ drop (i + 1) xs)
cut_at_item [] i x lt e = absurd (omega arith)
cut_at_item (y ∷ ys) zero x lt e = ap (λ z. z ∷ ys) (sym e)
cut_at_item (y ∷ ys) (suc i) x lt e =
    ap (λ z. y ∷ z) (cut_at_item ys i x (omega arith) e)
    ∙ ap (λ k. y ∷ (take i ys ++ (x ∷ drop k (y ∷ ys)))) (let f : suc (i + 1) ≡ suc i + 1 = omega arith in f)
