-- One step of reading after another, and a pass over a list.
use Rattle.std.proofs.Common.{◌≡◌, ℕ, zero, suc, ◌+◌, ◌<◌, ◌≤◌, List, [], ◌∷◌, ◌++◌, length, get_or, take, map, Option, Some, None, Result, Ok, Err, ok_or, refl, sym, ap, subst, ◌∙◌, arith}
use Rattle.std.specs.List.{All}
use Rattle.std.proofs.lemmas.List.{map_more, map_push, take_all, length-map, length-take-le}
use Rattle.std.proofs.lemmas.List.Elements.{All-nil, All-cons}
use Rattle.tpl_json.specs.declared.miss.Miss.{Miss}
use Rattle.tpl_json.specs.declared.miss.Miss.TheVariants as miss
use Rattle.tpl_json.specs.Passes.{◌>>=◌, each_from, all_or, Fails}

-- ---- one step after another

-- the value of a step that did not fail, and of one that looks up or tests
pub bind_ok : {A B F : Type 0} (r : Result A F) (f : A → Result B F) (y : B) → (r >>= f) ≡ Ok y → (x : A) × (r ≡ Ok x) × (f x ≡ Ok y)
bind_ok (Ok x) f y e = (x, refl, e)
bind_ok (Err fault) f y e = absurd cc

pub bind_or : {A B F : Type 0} (o : Option A) (fault : F) (f : A → Result B F) (y : B) → (ok_or o fault >>= f) ≡ Ok y → (x : A) × (o ≡ Some x) × (f x ≡ Ok y)
bind_or (Some x) fault f y e = (x, refl, e)
bind_or None fault f y e = absurd cc

pub or_ok : {A F : Type 0} (o : Option A) (fault : F) (x : A) → ok_or o fault ≡ Ok x → o ≡ Some x
or_ok (Some y) fault x e = cc
or_ok None fault x e = absurd cc

-- one value, or one fault
pub ok_is : {A F : Type 0} (x y : A) (r : Result A F) → r ≡ Ok x → r ≡ Ok y → x ≡ y
ok_is x y r e f = cc

pub ok_err : {A F : Type 0} (x : A) (fault : F) (r : Result A F) → r ≡ Ok x → r ≡ Err fault → ⊥
ok_err x fault r e f = absurd cc

-- a step that failed
pub fails_bind : {A B F : Type 0} (e : Miss F) (r : Result A F) (f : A → Result B F) → Fails e r → Fails e (r >>= f)
fails_bind (miss.Wrong fault) r f h = rw h refl
fails_bind miss.Memory r f h = tt

-- want of memory is no fault of what is read
pub want_of_memory : {Y F : Type 0} (e : Miss F) (r : Result Y F) → e ≡ miss.Memory → Fails e r
want_of_memory e r is = rw is tt

-- ---- the elements of a list, one by one

pub each_empty : {D A F : Type 0} (read : ℕ → D → Result A F) (n : ℕ) → each_from read n [] ≡ Ok []
unfolding each_from
each_empty read n = refl

each_nothing : {D A F : Type 0} (read : ℕ → D → Result A F) (n : ℕ) (xs : List A) → each_from read n [] ≡ Ok xs → [] ≡ xs
each_nothing read n xs e = ok_is [] xs (each_from read n []) (each_empty read n) e

pub each_cons : {D A F : Type 0} (read : ℕ → D → Result A F) (n : ℕ) (d : D) (ds : List D) (x : A) (xs : List A) → read n d ≡ Ok x → each_from read (n + 1) ds ≡ Ok xs → each_from read n (d ∷ ds) ≡ Ok (x ∷ xs)
unfolding each_from
each_cons read n d ds x xs h e = rw (h, e) refl

pub record Elements {D A F : Type 0} (read : ℕ → D → Result A F) (n : ℕ) (d : D) (ds : List D) (all : List A) : Type 0 where
  pub first : A
  pub rest : List A
  pub whole : first ∷ rest ≡ all
  pub is_first : read n d ≡ Ok first
  pub is_rest : each_from read (n + 1) ds ≡ Ok rest

each_parts : {D A F : Type 0} (read : ℕ → D → Result A F) (n : ℕ) (d : D) (ds : List D) (xs : List A) → each_from read n (d ∷ ds) ≡ Ok xs → Elements read n d ds xs
unfolding each_from
each_parts read n d ds xs e =
    let a = bind_ok (read n d) (λ y. each_from read (n + 1) ds >>= λ ys. Ok (y ∷ ys)) xs e in
    let b = bind_ok (each_from read (n + 1) ds) (λ ys. Ok (a.0 ∷ ys)) xs a.2 in
    record { first = a.0; rest = b.0; whole = ok_is (a.0 ∷ b.0) xs _ refl b.2; is_first = a.1; is_rest = b.1 }

-- what is true of each that is read is true of them all
pub each_every : {D A F : Type 0} (read : ℕ → D → Result A F) (P : A → Type 0) → ((n : ℕ) (d : D) (x : A) → read n d ≡ Ok x → P x) → (n : ℕ) (ds : List D) (xs : List A) → each_from read n ds ≡ Ok xs → All P xs
each_every {A = A} read P one n [] xs e = subst (λ (ys : List A). All P ys) (each_nothing read n xs e) (All-nil P)
each_every {A = A} read P one n (d ∷ ds) xs e =
    let p = each_parts read n d ds xs e in
    subst (λ (ys : List A). All P ys) p.whole (All-cons P p.first p.rest (one n d p.first p.is_first) (each_every read P one (n + 1) ds p.rest p.is_rest))

pub all_every : {D A F : Type 0} (fault : F) (f : D → Option A) (P : A → Type 0) → ((d : D) (x : A) → f d ≡ Some x → P x) → (ds : List D) (xs : List A) → all_or fault f ds ≡ Ok xs → All P xs
all_every fault f P one ds xs e = each_every (λ n d. ok_or (f d) fault) P (λ n d x h. one d x (or_ok (f d) fault x h)) 1 ds xs e

-- as many are read as there are
pub each_length : {D A F : Type 0} (read : ℕ → D → Result A F) (n : ℕ) (ds : List D) (xs : List A) → each_from read n ds ≡ Ok xs → length xs ≡ length ds
each_length read n [] xs e = ap length (sym (each_nothing read n xs e))
each_length read n (d ∷ ds) xs e =
    let p = each_parts read n d ds xs e in
    ap length (sym p.whole) ∙ ap suc (each_length read (n + 1) ds p.rest p.is_rest)

-- ---- a loop over a list

pub each_push : {D A F : Type 0} (read : ℕ → D → Result A F) (n k : ℕ) (ds : List D) (xs : List A) (d : D) (x : A) → k ≡ n + length ds → each_from read n ds ≡ Ok xs → read k d ≡ Ok x → each_from read n (ds ++ d ∷ []) ≡ Ok (xs ++ x ∷ [])
each_push read n k [] xs d x at all h =
    let same : n ≡ k = omega (arith, at) in
    let nil = each_nothing read n xs all in
    rw (← nil) (each_cons read n d [] x [] (rw same h) (each_empty read (n + 1)))
each_push read n k (c ∷ ds) xs d x at all h =
    let p = each_parts read n c ds xs all in
    rw (← p.whole) (each_cons read n c (ds ++ d ∷ []) p.first (p.rest ++ x ∷ []) p.is_first (each_push read (n + 1) k ds p.rest d x (omega (arith, at)) p.is_rest h))

-- one element more
pub each_more : {X D A F : Type 0} (read : ℕ → D → Result A F) (g : X → D) (es : List X) (i : ℕ) (e : X) (xs : List A) (x : A) → i < length es → each_from read 1 (map g (take i es)) ≡ Ok xs → read (i + 1) (g (get_or es i e)) ≡ Ok x → each_from read 1 (map g (take (i + 1) es)) ≡ Ok (xs ++ x ∷ [])
each_more read g es i e xs x lt all h =
    let long = length-map (take i es) g in
    let taken = length-take-le i es (omega arith) in
    rw (map_more g es i e lt) (each_push read 1 (i + 1) (map g (take i es)) xs (g (get_or es i e)) x (omega (arith, long, taken)) all h)

-- all of them
pub each_done : {X D A F : Type 0} (read : ℕ → D → Result A F) (g : X → D) (es : List X) (i : ℕ) (xs : List A) → length es ≤ i → each_from read 1 (map g (take i es)) ≡ Ok xs → each_from read 1 (map g es) ≡ Ok xs
each_done read g es i xs le all = rw (take_all i es le) at all

stops : {X D A F : Type 0} (read : ℕ → D → Result A F) (g : X → D) (n k : ℕ) (es : List X) (i : ℕ) (e : X) (xs : List A) (fault : F) → k ≡ n + i → i < length es → each_from read n (map g (take i es)) ≡ Ok xs → read k (g (get_or es i e)) ≡ Err fault → each_from read n (map g es) ≡ Err fault
unfolding each_from
stops read g n k [] i e xs fault at lt all h = absurd (omega arith)
stops read g n k (x ∷ es) zero e xs fault at lt all h = let same : n ≡ k = omega (arith, at) in rw (same, h) refl
stops read g n k (x ∷ es) (suc i) e xs fault at lt all h =
    let p = each_parts read n (g x) (map g (take i es)) xs all in
    rw (p.is_first, stops read g (n + 1) k es i e p.rest fault (omega (arith, at)) (omega arith) p.is_rest h) refl

-- the exit of the loop at an element that isn't read
pub each_stops : {X D A F : Type 0} (read : ℕ → D → Result A F) (g : X → D) (es : List X) (i : ℕ) (e : X) (xs : List A) (fault : F) → i < length es → each_from read 1 (map g (take i es)) ≡ Ok xs → read (i + 1) (g (get_or es i e)) ≡ Err fault → each_from read 1 (map g es) ≡ Err fault
each_stops read g es i e xs fault lt all h = stops read g 1 (i + 1) es i e xs fault (omega arith) lt all h

pub each_fails : {X D A F : Type 0} (read : ℕ → D → Result A F) (g : X → D) (es : List X) (i : ℕ) (e : X) (xs : List A) (m : Miss F) → i < length es → each_from read 1 (map g (take i es)) ≡ Ok xs → Fails m (read (i + 1) (g (get_or es i e))) → Fails m (each_from read 1 (map g es))
each_fails read g es i e xs (miss.Wrong fault) lt all h = each_stops read g es i e xs fault lt all h
each_fails read g es i e xs miss.Memory lt all h = tt

-- what one more stands for
pub mapped_more : {X C Y Z : Type 0} (f : Y → Z) (h : C → Z) (g : X → C) (ys : List Y) (xs : List X) (i : ℕ) (d : X) (y : Y) → i < length xs → map f ys ≡ map h (map g (take i xs)) → f y ≡ h (g (get_or xs i d)) → map f (ys ++ y ∷ []) ≡ map h (map g (take (i + 1) xs))
mapped_more f h g ys xs i d y lt before is = rw (map_push f ys y, map_more g xs i d lt, map_push h (map g (take i xs)) (g (get_or xs i d)), before, is) refl

-- ---- one fault is all that can be said

or_fails : {A B F : Type 0} (o : Option A) (fault : F) (f : A → Result B F) → ((x : A) → f x ≡ Err fault) → (ok_or o fault >>= f) ≡ Err fault
or_fails (Some x) fault f h = h x
or_fails None fault f h = refl

pub later_fails : {D A F : Type 0} (fault : F) (f : D → Option A) (n : ℕ) (d : D) (ds : List D) → each_from (λ n d. ok_or (f d) fault) (n + 1) ds ≡ Err fault → each_from (λ n d. ok_or (f d) fault) n (d ∷ ds) ≡ Err fault
unfolding each_from
later_fails fault f n d ds h = or_fails (f d) fault (λ x. each_from (λ k y. ok_or (f y) fault) (n + 1) ds >>= λ xs. Ok (x ∷ xs)) (λ x. rw h refl)
