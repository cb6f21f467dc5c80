-- Names as lists of bytes, and their numbers.
use Rattle.std.specs.Prelude.{ℕ, Bool, false, ◌||◌, ◌++◌, [], ◌∷◌, List, Option, Some, None, if◌then◌else◌}
use Rattle.std.specs.List.{list_any, position}
use Rattle.std.specs.Str.{bytes_eq}

-- the name is among the names
abbrev pub has_name : List (List ℕ) → List ℕ → Bool
has_name names name = list_any (bytes_eq name) names

-- the number, or 0 where there is none
abbrev pub or_zero : Option ℕ → ℕ
or_zero None = 0
or_zero (Some n) = n

-- the number of a name, from 0; a name that isn't declared has 0
abbrev pub place : List (List ℕ) → List ℕ → ℕ
place names name = or_zero (position (bytes_eq name) names)

-- a name behind the others, if it is new
abbrev pub with_name : List (List ℕ) → List ℕ → List (List ℕ)
with_name names name = if has_name names name then names else (names ++ name ∷ [])

-- the names with more behind them, none twice
abbrev pub with_names : List (List ℕ) → List (List ℕ) → List (List ℕ)
with_names names [] = names
with_names names (x ∷ xs) = with_names (with_name names x) xs

-- one of the names stands among those before it
abbrev pub twice_after : List (List ℕ) → List (List ℕ) → Bool
twice_after before [] = false
twice_after before (x ∷ xs) = has_name before x || twice_after (with_name before x) xs

-- some name stands twice
abbrev pub some_twice : List (List ℕ) → Bool
some_twice names = twice_after [] names
