-- Among names without repeats, a name's number is its place.
use Rattle.std.proofs.Common.{◌≡◌, ℕ, zero, suc, ◌<◌, List, [], ◌∷◌, ◌++◌, length, get_or, Bool, true, false, cond, Some, None, nat_lt, refl, sym, ◌∙◌, arith}
use Rattle.std.specs.List.{position, position_or_len}
use Rattle.std.specs.Str.{bytes_eq}
use Rattle.std.proofs.lemmas.List.Sums.{position_or_len_is}
use Rattle.std.proofs.lemmas.List.Folds.{list_any-append}
use Rattle.std.proofs.lemmas.Bool.{ltb-true, lt-ltb}
use Rattle.tpl_graph.proofs.PlaceLaws.{once_more, same_name}
use Rattle.tpl_model.proofs.Truths.{or_first, or_second}
use Rattle.tpl_draft.specs.Names.{has_name, with_name, twice_after, some_twice}
use Rattle.tpl_cert.specs.Naming.{number_of}
use Rattle.tpl_cert.specs.Written.{name_at, is_id}

-- a name behind others is none of them
fresh : (before : List (List ℕ)) (xs : List (List ℕ)) (i : ℕ) → twice_after before xs ≡ false → i < length xs → has_name before (get_or xs i []) ≡ false
fresh before [] i once lt = absurd (omega arith)
fresh before (x ∷ xs) zero once lt = or_first (has_name before x) (twice_after (with_name before x) xs) once
fresh before (x ∷ xs) (suc i) once lt =
    or_first (has_name before (get_or xs i [])) (has_name (x ∷ []) (get_or xs i []))
    (sym (list_any-append (bytes_eq (get_or xs i [])) before (x ∷ [])) ∙ fresh (before ++ x ∷ []) xs i (once_more before x xs once) (omega arith))

-- two places have two names
other_name : (before : List (List ℕ)) (xs : List (List ℕ)) (i k : ℕ) → twice_after before xs ≡ false → i < length xs → k < i → bytes_eq (get_or xs i []) (get_or xs k []) ≡ false
other_name before [] i k once lt less = absurd (omega arith)
other_name before (x ∷ xs) zero k once lt less = absurd (omega arith)
other_name before (x ∷ xs) (suc i) zero once lt less =
    let rest = once_more before x xs once in
    let none : has_name (before ++ x ∷ []) (get_or xs i []) ≡ false = fresh (before ++ x ∷ []) xs i rest (omega arith) in
    or_first (bytes_eq (get_or xs i []) x) false (or_second (has_name before (get_or xs i [])) (has_name (x ∷ []) (get_or xs i [])) (sym (list_any-append (bytes_eq (get_or xs i [])) before (x ∷ [])) ∙ none))
other_name before (x ∷ xs) (suc i) (suc k) once lt less =
    other_name (before ++ x ∷ []) xs i k (once_more before x xs once) (omega arith) (omega arith)

cond_true : {A : Type 0} (b : Bool) (x y : A) → b ≡ true → cond b x y ≡ x
cond_true true x y e = refl
cond_true false x y e = absurd cc

found : (names : List (List ℕ)) (i : ℕ) → some_twice names ≡ false → i < length names → position_or_len (bytes_eq (get_or names i [])) names ≡ i
found names i once lt =
    position_or_len_is (bytes_eq (get_or names i [])) names i [] (omega arith) (λ k l. other_name [] names i k once lt l) (λ l. same_name (get_or names i []))

at_place : (names : List (List ℕ)) (p : List ℕ → Bool) (i : ℕ) → position_or_len p names ≡ i → i < length names → position p names ≡ Some i
at_place names p i e lt = rw e (cond_true (nat_lt i (length names)) (Some i) None (lt-ltb i (length names) lt))

or_default : (names : List (List ℕ)) (i : ℕ) → name_at names i ≡ get_or names i []
or_default names i = refl

pub number_of-name_at : (names : List (List ℕ)) → some_twice names ≡ false → (i : ℕ) → is_id names i ≡ true → number_of names (name_at names i) ≡ Some i
number_of-name_at names once i h =
    let lt : i < length names = ltb-true i (length names) h in
    rw (or_default names i) (at_place names (bytes_eq (get_or names i [])) i (found names i once lt) lt)
