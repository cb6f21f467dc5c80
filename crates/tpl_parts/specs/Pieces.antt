-- Pieces that several parts have, `None` where a JSON value is none.
use Rattle.std.specs.Prelude.{ℕ, List, [], ◌∷◌, Option}
use Rattle.serde_json.specs.Data.{Data}
use Rattle.tpl_json.specs.Members.{object_of, text_in}

-- the name in an object of one member
unfoldable pub name_at : List ℕ → Data → Option (List ℕ)
name_at member d = object_of (member ∷ []) d (text_in member d)
