-- What is given of single things, one after another.
use Rattle.std.proofs.Common.{◌≡◌, ◌+◌, ◌<◌, ◌||◌, ℕ, zero, suc, List, [], ◌∷◌, ◌++◌, length, map, take, get_or, Bool, true, false, cond, Some, None, Result, Ok, Err, ok_or, refl, ap, append-nil, arith}
use Rattle.std.specs.Prelude.{filter}
use Rattle.std.specs.List.{list_any}
use Rattle.std.proofs.lemmas.List.{map_more}
use Rattle.std.proofs.lemmas.List.Folds.{list_any-append}
use Rattle.tpl_model.specs.declared.claim.Given.{Given}
use Rattle.tpl_draft.specs.Named.{Names}
use Rattle.tpl_parts.specs.NamedClaims.{NamedGiven}
use Rattle.tpl_reader.specs.declared.fault.ClaimFault.{ClaimFault}
use Rattle.tpl_reader.specs.declared.fault.ClaimFault.TheVariants.{Unknown}
use Rattle.tpl_json.specs.Passes.{each_from}
use Rattle.tpl_reader.specs.Asked.{given_in, is_single, singles_in}
use Rattle.tpl_json.proofs.Passes.{each_push, later_fails}

-- the exit of a loop at one that passes the test, and the way past one that doesn't
pub any_stops : {X Y : Type 0} (p : Y → Bool) (g : X → Y) (xs : List X) (i : ℕ) (d : X) → i < length xs → p (g (get_or xs i d)) ≡ true → list_any p (map g xs) ≡ true
any_stops p g [] i d lt e = absurd (omega arith)
any_stops p g (x ∷ xs) zero d lt e = rw e refl
any_stops p g (x ∷ xs) (suc i) d lt e = or_true (p (g x)) (list_any p (map g xs)) (any_stops p g xs i d (omega arith) e)
  where
    or_true : (a b : Bool) → b ≡ true → (a || b) ≡ true
    or_true true b e = refl
    or_true false b e = e

pub any_more : {X Y : Type 0} (p : Y → Bool) (g : X → Y) (xs : List X) (i : ℕ) (d : X) → i < length xs → list_any p (map g (take i xs)) ≡ false → p (g (get_or xs i d)) ≡ false → list_any p (map g (take (i + 1) xs)) ≡ false
any_more p g xs i d lt before e = rw (map_more g xs i d lt, list_any-append p (map g (take i xs)) (g (get_or xs i d) ∷ []), before, e) refl

filter_by : (y x : NamedGiven) (said : List NamedGiven) (b : Bool) → filter is_single (said ++ x ∷ []) ≡ filter is_single said ++ cond (is_single x) (x ∷ []) []
    → cond b (y ∷ filter is_single (said ++ x ∷ [])) (filter is_single (said ++ x ∷ [])) ≡ cond b (y ∷ filter is_single said) (filter is_single said) ++ cond (is_single x) (x ∷ []) []
filter_by y x said true e = ap (λ zs. y ∷ zs) e
filter_by y x said false e = e

filter_push : (said : List NamedGiven) (x : NamedGiven) → filter is_single (said ++ x ∷ []) ≡ filter is_single said ++ cond (is_single x) (x ∷ []) []
filter_push [] x = refl
filter_push (y ∷ said) x = filter_by y x said (is_single y) (filter_push said x)

-- behind one more that is given of a single thing, and behind one that is given of all
pub singles_push : {X : Type 0} (n : Names) (g : X → NamedGiven) (xs : List X) (i : ℕ) (d : X) (found : List Given) (one : Given)
    → i < length xs → is_single (g (get_or xs i d)) ≡ true → given_in n (g (get_or xs i d)) ≡ Some one → singles_in n (map g (take i xs)) ≡ Ok found → singles_in n (map g (take (i + 1) xs)) ≡ Ok (found ++ one ∷ [])
singles_push n g xs i d found one lt single is before =
    rw (map_more g xs i d lt, filter_push (map g (take i xs)) (g (get_or xs i d)), single)
    (each_push (λ k x. ok_or (given_in n x) Unknown) 1 (1 + length (filter is_single (map g (take i xs)))) (filter is_single (map g (take i xs))) found (g (get_or xs i d)) one refl before (rw is refl))

pub singles_pass : {X : Type 0} (n : Names) (g : X → NamedGiven) (xs : List X) (i : ℕ) (d : X) (found : List Given)
    → i < length xs → is_single (g (get_or xs i d)) ≡ false → singles_in n (map g (take i xs)) ≡ Ok found → singles_in n (map g (take (i + 1) xs)) ≡ Ok found
singles_pass n g xs i d found lt single before =
    rw (map_more g xs i d lt, filter_push (map g (take i xs)) (g (get_or xs i d)), single, append-nil (filter is_single (map g (take i xs)))) before

-- the exit at one whose name isn't the graph's
abbrev each_single : Names → ℕ → List NamedGiven → Result (List Given) ClaimFault
each_single n k said = each_from (λ k x. ok_or (given_in n x) Unknown) k said

abbrev unknown : Result (List Given) ClaimFault
unknown = Err Unknown

stop_by : (n : Names) (x : NamedGiven) (rest : List NamedGiven) (b : Bool) → ((k : ℕ) → each_single n k (filter is_single rest) ≡ unknown) → (k : ℕ) → each_single n k (cond b (x ∷ filter is_single rest) (filter is_single rest)) ≡ unknown
stop_by n x rest true stops k = later_fails Unknown (given_in n) k x (filter is_single rest) (stops (k + 1))
stop_by n x rest false stops k = stops k

stops : {X : Type 0} (n : Names) (g : X → NamedGiven) (xs : List X) (i : ℕ) (d : X) → i < length xs → is_single (g (get_or xs i d)) ≡ true → given_in n (g (get_or xs i d)) ≡ None → (k : ℕ) → each_single n k (filter is_single (map g xs)) ≡ unknown
unfolding each_from
stops n g [] i d lt single is k = absurd (omega arith)
stops n g (x ∷ xs) zero d lt single is k = rw (single, is) refl
stops n g (x ∷ xs) (suc i) d lt single is k = stop_by n (g x) (map g xs) (is_single (g x)) (stops n g xs i d (omega arith) single is) k

pub singles_stop : {X : Type 0} (n : Names) (g : X → NamedGiven) (xs : List X) (i : ℕ) (d : X)
    → i < length xs → is_single (g (get_or xs i d)) ≡ true → given_in n (g (get_or xs i d)) ≡ None → singles_in n (map g xs) ≡ unknown
singles_stop n g xs i d lt single is = stops n g xs i d lt single is 1
