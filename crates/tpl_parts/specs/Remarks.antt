-- What stands in a document for its readers, `None` where a JSON value is no such thing.
use Rattle.std.specs.Prelude.{ℕ, ◌&&◌, Bool, not, List, length, Option, Some, None, nat_lt, nat_le}
use Rattle.std.specs.Char.{is_control}
use Rattle.std.specs.List.{list_any}
use Rattle.std.specs.Str.{chars}
use Rattle.serde_json.specs.Data.{Data}
use Rattle.serde_json.specs.Find.{as_str}
use Rattle.tpl_model.specs.declared.limits.TheConstants.{LONGEST_CLAIM_NAME}
use Rattle.tpl_json.specs.Members.{◌>>=◌, ◌<$>◌, only_if}

-- the name of a claim: 1 to LONGEST_CLAIM_NAME bytes of text without a control character
abbrev pub is_claim_name : List ℕ → Bool
is_claim_name name = (nat_lt 0 (length name) && nat_le (length name) LONGEST_CLAIM_NAME) && not (list_any is_control (chars name))

-- a claim may have a name
unfoldable pub claim_name : Option Data → Option (Option (List ℕ))
claim_name None = Some None
claim_name (Some d) = do
  name ← as_str d
  fits ← only_if (is_claim_name name)
  Some (Some name)

-- a note is a text, if it is there
unfoldable pub note_at : Option Data → Option (Unit {0})
note_at None = Some tt
note_at (Some d) = (λ text. tt) <$> as_str d
