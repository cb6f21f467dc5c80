-- Text as it stands between the tags of HTML.
use Rattle.std.specs.Prelude.{ℕ, List, [], ◌∷◌, ◌==◌, if◌then◌else◌, codes, flat_map}

-- a byte as it stands there: an ampersand and a less-than sign by their names
abbrev pub escaped_byte : ℕ → List ℕ
escaped_byte b = if b == 38 then codes "&amp;" else (if b == 60 then codes "&lt;" else b ∷ [])

-- the text as it stands there
abbrev pub escaped : List ℕ → List ℕ
escaped text = flat_map escaped_byte text
