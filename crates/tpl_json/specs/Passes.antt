-- Reading one part after another, as far as the first that is wrong.
use Rattle.std.specs.Prelude.{◌≡◌, ◌+◌, ◌⊎◌, ℕ, List, [], ◌∷◌, Option, Result, Ok, Err, ok_or, IfOk, IfErr}
use Rattle.std.specs.declared.alloc.Global.{Global}
use Rattle.std.specs.declared.vec.Vec.{Vec}
use Rattle.std.specs.Borrow.{Bor}
use Rattle.std.specs.Fn.{Shared, FnReturns}
use Rattle.tpl_json.specs.declared.miss.Miss.{Miss}
use Rattle.tpl_json.specs.declared.miss.Shape.{Shape}
use Rattle.tpl_json.specs.declared.miss.Miss.TheVariants as miss

-- what the next step makes of it
infixl 10 ◌>>=◌
abbrev pub ◌>>=◌ : {A B F : Type 0} → Result A F → (A → Result B F) → Result B F
(Ok x) >>= f = f x
(Err fault) >>= f = Err fault

-- each element of a list, counted from n on, or what is wrong with the first that isn't read
unfoldable pub each_from : {D A F : Type 0} → (ℕ → D → Result A F) → ℕ → List D → Result (List A) F
each_from read n [] = Ok []
each_from read n (d ∷ ds) = do
  x ← read n d
  xs ← each_from read (n + 1) ds
  Ok (x ∷ xs)

-- each element, or this fault
abbrev pub all_or : {D A F : Type 0} → F → (D → Option A) → List D → Result (List A) F
all_or fault read ds = each_from (λ n d. ok_or (read d) fault) 1 ds

-- with the number of the one in which something is wrong
abbrev pub at_number : {A F : Type 0} → ℕ → Result A F → Result A (ℕ × F)
at_number n (Ok x) = Ok x
at_number n (Err fault) = Err (n, fault)

-- what a function returned, seen by view, is what reading gives, unless memory ran out
abbrev pub Fails : {Y F : Type 0} → Miss F → Result Y F → Type 0
Fails (miss.Wrong fault) read = read ≡ Err fault
Fails miss.Memory read = Unit {0}

abbrev pub Yields : {X Y F : Type 0} → (X → Y) → Result X (Miss F) → Result Y F → Type 0
Yields view (Ok x) read = read ≡ Ok (view x)
Yields view (Err e) read = Fails e read

-- what a function returned, with this fault in place of a wrong shape
abbrev pub or_fault : {X F : Type 0} → F → Result X (Miss Shape) → Result X (Miss F)
or_fault fault (Ok x) = Ok x
or_fault fault (Err (miss.Wrong shape)) = Err (miss.Wrong fault)
or_fault fault (Err miss.Memory) = Err miss.Memory

-- and with a number beside what is wrong
abbrev pub numbered : {X F : Type 0} → ℕ → Result X (Miss F) → Result X (Miss (ℕ × F))
numbered n (Ok x) = Ok x
numbered n (Err (miss.Wrong fault)) = Err (miss.Wrong (n, fault))
numbered n (Err miss.Memory) = Err miss.Memory

-- ---- a pass over a list, which reads one item after another in this way, counted from n on

-- what a closure may answer for an item of this number
pub record Answers {C X R : Type 0} (g : Shared C (ℕ × (Bor X × Unit {0})) R) (read : C) (n : ℕ) (x : X) (r : R) : Type 0 where
  pub shown : Bor X
  pub shows : shown.now ≡ x
  pub says : FnReturns g read (n, (shown, tt)) r

-- each item was read as this
abbrev pub AllRead : {X T F : Type 0} → (ℕ → X → Result T (Miss F) → Type 0) → ℕ → List X → List T → Type 0
AllRead reads n [] [] = Unit {0}
AllRead reads n [] (t ∷ ts) = ⊥
AllRead reads n (x ∷ xs) [] = ⊥
AllRead reads n (x ∷ xs) (t ∷ ts) = reads n x (Ok t) × AllRead reads (n + 1) xs ts

-- an item behind some that were read was not, for this reason
abbrev pub OneFails : {X T F : Type 0} → (ℕ → X → Result T (Miss F) → Type 0) → ℕ → List X → Miss F → Type 0
OneFails reads n [] e = ⊥
OneFails {T = T} reads n (x ∷ xs) e = reads n x (Err e) ⊎ ((t : T) × reads n x (Ok t) × OneFails reads (n + 1) xs e)

-- what the pass returns
pub record ReadsEach {X T F : Type 0} (reads : ℕ → X → Result T (Miss F) → Type 0) (xs : List X) (result : Result (Vec T Global) (Miss F)) : Type 0 where
  pub ok : IfOk result (λ v. AllRead reads 1 xs v.items)
  pub err : IfErr result (λ e. (e ≡ miss.Memory) ⊎ OneFails reads 1 xs e)
