-- Lists of the numbers of ids, read as sets.
use Rattle.std.specs.Prelude.{ℕ, ◌++◌, Bool, false, ◌||◌, if◌then◌else◌, List, [], ◌∷◌, nat_eq}

-- x is in the list
abbrev pub mem : ℕ → List ℕ → Bool
mem x [] = false
mem x (y ∷ ys) = nat_eq x y || mem x ys

-- the first list, then those of the second that aren't in it yet, none twice
abbrev pub joined : List ℕ → List ℕ → List ℕ
joined xs [] = xs
joined xs (y ∷ ys) = joined (if mem y xs then xs else (xs ++ y ∷ [])) ys
