-- A pass over a list, which reads one item after another.
use Rattle.std.proofs.Common.{◌≡◌, ◌⊎◌, ℕ, zero, suc, ◌+◌, ◌<◌, ◌≤◌, List, [], ◌∷◌, ◌++◌, length, get_or, take, map, Result, Ok, Err, ok_or, Option, Some, None, inl, inr, refl, arith}
use Rattle.std.proofs.lemmas.List.{map-id, take_more, take_all, length-take-le}
use Rattle.std.specs.declared.alloc.Global.{Global}
use Rattle.std.specs.declared.vec.Vec.{Vec}
use Rattle.serde_json.specs.Data.{Data}
use Rattle.tpl_json.specs.declared.miss.Miss.{Miss}
use Rattle.tpl_json.specs.declared.miss.Shape.{Shape}
use Rattle.tpl_json.specs.declared.miss.Miss.TheVariants as miss
use Rattle.tpl_json.specs.Members.{each, Gives, Misses}
use Rattle.tpl_json.specs.Passes.{each_from, at_number, or_fault, numbered, Fails, Yields, AllRead, OneFails, ReadsEach}

-- ---- with another fault

pub yields_or : {X Y F : Type 0} (seen : X → Y) (read : Result X (Miss Shape)) (o : Option Y) (fault : F) (r : Result X (Miss F)) → r ≡ or_fault fault read → Gives seen read o → Yields seen r (ok_or o fault)
yields_or seen (Ok x) o fault r is gives = rw (is, gives) refl
yields_or seen (Err (miss.Wrong s)) o fault r is gives = rw (is, gives) refl
yields_or seen (Err miss.Memory) o fault r is gives = rw is tt

pub yields_number : {X Y F : Type 0} (seen : X → Y) (read : Result X (Miss F)) (o : Result Y F) (n : ℕ) (r : Result X (Miss (ℕ × F))) → r ≡ numbered n read → Yields seen read o → Yields seen r (at_number n o)
yields_number seen (Ok x) o n r is yields = rw (is, yields) refl
yields_number seen (Err (miss.Wrong fault)) o n r is yields = rw (is, yields) refl
yields_number seen (Err miss.Memory) o n r is yields = rw is tt

-- ---- a loop over a list

module _ {X T F : Type 0} (reads : ℕ → X → Result T (Miss F) → Type 0) where
  read_push : (n k : ℕ) (xs : List X) (ts : List T) (x : X) (t : T) → k ≡ n + length xs → AllRead reads n xs ts → reads k x (Ok t) → AllRead reads n (xs ++ x ∷ []) (ts ++ t ∷ [])
  read_push n k [] [] x t at all one = let same : k ≡ n = omega (arith, at) in (rw (← same) one, tt)
  read_push n k [] (u ∷ ts) x t at all one = absurd all
  read_push n k (y ∷ xs) [] x t at all one = absurd all
  read_push n k (y ∷ xs) (u ∷ ts) x t at all one = (all.0, read_push (n + 1) k xs ts x t (omega (arith, at)) all.1 one)

  -- one item more
  pub read_more : (xs : List X) (i : ℕ) (x : X) (ts : List T) (t : T) → i < length xs → AllRead reads 1 (take i xs) ts → reads (i + 1) (get_or xs i x) (Ok t) → AllRead reads 1 (take (i + 1) xs) (ts ++ t ∷ [])
  read_more xs i x ts t lt all one =
      let taken = length-take-le i xs (omega arith) in
      rw (take_more xs i x lt) (read_push 1 (i + 1) (take i xs) ts (get_or xs i x) t (omega (arith, taken)) all one)

  -- all of them
  pub read_done : (xs : List X) (i : ℕ) (ts : List T) → length xs ≤ i → AllRead reads 1 (take i xs) ts → AllRead reads 1 xs ts
  read_done xs i ts le all = rw (take_all i xs le) at all

  fails_from : (n k : ℕ) (xs : List X) (i : ℕ) (x : X) (ts : List T) (e : Miss F) → k ≡ n + i → i < length xs → AllRead reads n (take i xs) ts → reads k (get_or xs i x) (Err e) → OneFails reads n xs e
  fails_from n k [] i x ts e at lt all one = absurd (omega arith)
  fails_from n k (y ∷ xs) zero x ts e at lt all one = let same : k ≡ n = omega (arith, at) in inl (rw (← same) one)
  fails_from n k (y ∷ xs) (suc i) x [] e at lt all one = absurd all
  fails_from n k (y ∷ xs) (suc i) x (t ∷ ts) e at lt all one = inr (t, all.0, fails_from (n + 1) k xs i x ts e (omega (arith, at)) (omega arith) all.1 one)

  -- the exit of the loop at an item that isn't read
  pub read_fails : (xs : List X) (i : ℕ) (x : X) (ts : List T) (e : Miss F) → i < length xs → AllRead reads 1 (take i xs) ts → reads (i + 1) (get_or xs i x) (Err e) → OneFails reads 1 xs e
  read_fails xs i x ts e lt all one = fails_from 1 (i + 1) xs i x ts e (omega arith) lt all one

-- ---- where each item is read as a definition says

module _ {X T F D A : Type 0} (reads : ℕ → X → Result T (Miss F) → Type 0) (read : ℕ → D → Result A F) (see : X → D) (seen : T → A) where
  abbrev Tells : Type 0
  Tells = (n : ℕ) (x : X) (r : Result T (Miss F)) → reads n x r → Yields seen r (read n (see x))

  all_are : (n : ℕ) (xs : List X) (ts : List T) → AllRead reads n xs ts → Tells → each_from read n (map see xs) ≡ Ok (map seen ts)
  unfolding each_from
  all_are n [] [] all one = refl
  all_are n [] (t ∷ ts) all one = absurd all
  all_are n (x ∷ xs) [] all one = absurd all
  all_are n (x ∷ xs) (t ∷ ts) all one = rw (one n x (Ok t) all.0, all_are (n + 1) xs ts all.1 one) refl

  none_is : (n : ℕ) (xs : List X) (fault : F) → OneFails reads n xs (miss.Wrong fault) → Tells → each_from read n (map see xs) ≡ Err fault
  unfolding each_from
  none_is n [] fault fails one = absurd fails
  none_is n (x ∷ xs) fault (inl first) one = rw (one n x (Err (miss.Wrong fault)) first) refl
  none_is n (x ∷ xs) fault (inr (t, first, rest)) one = rw (one n x (Ok t) first, none_is (n + 1) xs fault rest one) refl

  fail_so : (xs : List X) (e : Miss F) → (e ≡ miss.Memory) ⊎ OneFails reads 1 xs e → Tells → Fails e (each_from read 1 (map see xs))
  fail_so xs miss.Memory fails one = tt
  fail_so xs (miss.Wrong fault) (inl memory) one = absurd cc
  fail_so xs (miss.Wrong fault) (inr fails) one = none_is 1 xs fault fails one

  yields : (xs : List X) (r : Result (Vec T Global) (Miss F)) → ReadsEach reads xs r → Tells → Yields (λ v. map seen v.items) r (each_from read 1 (map see xs))
  yields xs (Ok v) all one = all_are 1 xs v.items all.ok one
  yields xs (Err e) all one = fail_so xs e all.err one

-- what `read_each` gives then
pub each_yields : {X T F D A : Type 0} {reads : ℕ → X → Result T (Miss F) → Type 0} (read : ℕ → D → Result A F) (see : X → D) (seen : T → A) {xs : List X} {r : Result (Vec T Global) (Miss F)} → ReadsEach reads xs r
    → ((n : ℕ) (x : X) (r : Result T (Miss F)) → reads n x r → Yields seen r (read n (see x))) → Yields (λ v. map seen v.items) r (each_from read 1 (map see xs))
each_yields {reads = reads} read see seen {xs} {r} all one = yields reads read see seen xs r all one

-- and where each is what was read
pub each_yields_same : {X T F D : Type 0} {reads : ℕ → X → Result T (Miss F) → Type 0} (read : ℕ → D → Result T F) (see : X → D) {xs : List X} {r : Result (Vec T Global) (Miss F)} → ReadsEach reads xs r
    → ((n : ℕ) (x : X) (r : Result T (Miss F)) → reads n x r → Yields (λ t. t) r (read n (see x))) → Yields (λ v. v.items) r (each_from read 1 (map see xs))
each_yields_same read see {r = Ok v} all one = rw map-id at (each_yields read see (λ t. t) all one)
each_yields_same read see {r = Err e} all one = each_yields read see (λ t. t) all one

-- ---- the same of values, where any wrong shape is as good as another

module _ {X T A : Type 0} (reads : ℕ → X → Result T (Miss Shape) → Type 0) (read : Data → Option A) (see : X → Data) (seen : T → A) where
  abbrev GivesEach : Type 0
  GivesEach = (n : ℕ) (x : X) (r : Result T (Miss Shape)) → reads n x r → Gives seen r (read (see x))

  all_given : (n : ℕ) (xs : List X) (ts : List T) → AllRead reads n xs ts → GivesEach → each read (map see xs) ≡ Some (map seen ts)
  unfolding each
  all_given n [] [] all one = refl
  all_given n [] (t ∷ ts) all one = absurd all
  all_given n (x ∷ xs) [] all one = absurd all
  all_given n (x ∷ xs) (t ∷ ts) all one = rw (one n x (Ok t) all.0, all_given (n + 1) xs ts all.1 one) refl

  none_given : (n : ℕ) (xs : List X) (shape : Shape) → OneFails reads n xs (miss.Wrong shape) → GivesEach → each read (map see xs) ≡ None
  unfolding each
  none_given n [] shape fails one = absurd fails
  none_given n (x ∷ xs) shape (inl first) one = rw (one n x (Err (miss.Wrong shape)) first) refl
  none_given n (x ∷ xs) shape (inr (t, first, rest)) one = rw (one n x (Ok t) first, none_given (n + 1) xs shape rest one) refl

  miss_so : (xs : List X) (e : Miss Shape) → (e ≡ miss.Memory) ⊎ OneFails reads 1 xs e → GivesEach → Misses e (each read (map see xs))
  miss_so xs miss.Memory fails one = tt
  miss_so xs (miss.Wrong shape) (inl memory) one = absurd cc
  miss_so xs (miss.Wrong shape) (inr fails) one = none_given 1 xs shape fails one

  gives : (xs : List X) (r : Result (Vec T Global) (Miss Shape)) → ReadsEach reads xs r → GivesEach → Gives (λ v. map seen v.items) r (each read (map see xs))
  gives xs (Ok v) all one = all_given 1 xs v.items all.ok one
  gives xs (Err e) all one = miss_so xs e all.err one

pub each_gives : {X T A : Type 0} {reads : ℕ → X → Result T (Miss Shape) → Type 0} (read : Data → Option A) (see : X → Data) (seen : T → A) {xs : List X} {r : Result (Vec T Global) (Miss Shape)} → ReadsEach reads xs r
    → ((n : ℕ) (x : X) (r : Result T (Miss Shape)) → reads n x r → Gives seen r (read (see x))) → Gives (λ v. map seen v.items) r (each read (map see xs))
each_gives {reads = reads} read see seen {xs} {r} all one = gives reads read see seen xs r all one

pub each_gives_same : {X T : Type 0} {reads : ℕ → X → Result T (Miss Shape) → Type 0} (read : Data → Option T) (see : X → Data) {xs : List X} {r : Result (Vec T Global) (Miss Shape)} → ReadsEach reads xs r
    → ((n : ℕ) (x : X) (r : Result T (Miss Shape)) → reads n x r → Gives (λ t. t) r (read (see x))) → Gives (λ v. v.items) r (each read (map see xs))
each_gives_same read see {r = Ok v} all one = rw map-id at (each_gives read see (λ t. t) all one)
each_gives_same read see {r = Err e} all one = each_gives read see (λ t. t) all one
