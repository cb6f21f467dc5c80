-- The lines of bytes.
use Rattle.std.specs.Prelude.{◌≡◌, ◌<◌, ℕ, true, List, [], ◌∷◌, ◌++◌, length, take, slice_index}
use Rattle.std.specs.List.{All}
use Rattle.tpl_journal.specs.Cuts.{lacks}

-- a line has no line break in it
abbrev pub IsLine : List ℕ → Type 0
IsLine bytes = lacks 10 bytes ≡ true

-- the first line break of the bytes is at this place
pub record IsFirstBreak (bytes : List ℕ) (place : ℕ) : Type 0 where
  pub within : place < length bytes
  pub before : IsLine (take place bytes)
  pub at : slice_index bytes place ≡ 10

-- the lines, each with a line break behind it
abbrev pub broken : List (List ℕ) → List ℕ
broken [] = []
broken (line ∷ lines) = line ++ (10 ∷ broken lines)

-- what stands behind the last line break is a line too, unless there is nothing
abbrev pub last_line : List ℕ → List (List ℕ)
last_line [] = []
last_line (byte ∷ bytes) = (byte ∷ bytes) ∷ []

-- the bytes begin with these lines
pub record BeginWith (lines : List (List ℕ)) (bytes : List ℕ) : Type 0 where
  pub each : All IsLine lines
  pub rest : List ℕ
  pub joined : bytes ≡ broken lines ++ rest

-- these are all lines of the bytes
pub record AreLines (lines : List (List ℕ)) (bytes : List ℕ) : Type 0 where
  pub front : List (List ℕ)
  pub each : All IsLine front
  pub rest : List ℕ
  pub unbroken : IsLine rest
  pub joined : bytes ≡ broken front ++ rest
  pub all : lines ≡ front ++ last_line rest
